pub mod Record
pub mod Payload
pub mod Log
pub mod Settled
pub mod Walk
pub mod Fault
pub mod ReadAhead
