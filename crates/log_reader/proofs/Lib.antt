pub mod FeedLaws
pub mod ReadLaws
