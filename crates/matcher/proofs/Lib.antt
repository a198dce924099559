pub mod ListingLaws
pub mod AcceptedCallLaws
pub mod RunCallLaws
