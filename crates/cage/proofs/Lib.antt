pub mod CageChecks
