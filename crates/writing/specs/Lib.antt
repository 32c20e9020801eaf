pub mod Writes
pub mod Laws
pub mod RoundTrip
