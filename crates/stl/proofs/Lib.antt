pub mod FacetLaws
pub mod Verdict
