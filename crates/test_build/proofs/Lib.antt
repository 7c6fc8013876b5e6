pub mod BuildableLaws
