pub mod Star
