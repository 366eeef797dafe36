pub mod Scaled
pub mod Units
pub mod Decimal
pub mod DecimalReading
