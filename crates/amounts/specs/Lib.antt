pub mod Drifts
pub mod Kind
pub mod Moneys
pub mod DriftLaws
pub mod MoneyLaws
