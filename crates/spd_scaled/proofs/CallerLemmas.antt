-- What callers' proofs cite of whole numbers: products and order, rounded division, magnitudes, the text of a number, and digits read one by one.
pub mod Ring
pub mod DivisionLaws
pub mod Magnitude
pub mod UnitsLaws
pub use Rattle.spd_scaled.proofs.DecimalParts.{AllDigits-list_all, digits_value_after-step, list_all-AllDigits}
pub use Rattle.spd_scaled.proofs.DecimalText.{decimal_of-every}
pub use Rattle.spd_scaled.proofs.DecimalUnits.{units_from-AreUnits}
pub use Rattle.spd_scaled.proofs.ReadBack.{read_back}
