pub mod EffectViews
pub mod Reach
