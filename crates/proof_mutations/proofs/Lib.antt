-- Cases: what the schedules come to. Laws: what the decisions rest on. Same: the world of this crate is that of `claim` over records.
pub mod Cases
pub mod Laws
pub mod Same
