pub mod ContentLemmas
pub mod Filling
pub mod StoredLemmas
