-- What the trailer's tests show, as sums.
pub mod Shape
