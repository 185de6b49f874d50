pub mod Tops
pub mod FoldLaws
