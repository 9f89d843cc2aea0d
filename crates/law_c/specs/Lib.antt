pub mod RefusedByC
