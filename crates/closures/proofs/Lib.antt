pub mod TransitionStartLaws
pub mod KeyedWordLaws
pub mod PendingStackLaws
pub mod SearchLaws
pub mod FollowLaws
pub mod EpsilonLaws
pub mod KeptClosureLaws
