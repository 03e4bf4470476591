pub mod MoneyBelow
