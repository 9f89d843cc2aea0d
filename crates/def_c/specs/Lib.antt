pub mod FromC
pub mod EventsOfC
pub mod Demand3OfC
