-- States that are alike but for what waiting copies say.
pub mod Alike
pub mod Slim
