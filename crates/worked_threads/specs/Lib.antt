pub mod PassingMeaning
