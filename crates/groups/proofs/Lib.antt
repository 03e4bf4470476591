pub mod Order
pub mod PairOrder
pub mod Totals
pub mod WholeOrder
