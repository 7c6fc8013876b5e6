pub mod EncodingLaws
pub mod EncodeLaws
pub mod ShortenedLaws
pub mod ClippedLaws
pub mod Examples
