pub mod ExpressionTexts
pub mod LimitTexts
