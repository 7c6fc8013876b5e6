pub mod HoldingLaws
