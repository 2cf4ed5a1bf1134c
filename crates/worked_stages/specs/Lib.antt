pub mod ToyMeaning
