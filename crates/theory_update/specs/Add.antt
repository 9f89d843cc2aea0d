pub mod Splitting
pub mod Linking
pub mod MakingRoom
pub mod Directing
pub mod Descent
pub mod Raising
pub mod LeafRoom
