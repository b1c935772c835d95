-- Kept: the lock's provisos as tests of one event. Handed: a schedule with a lost controller and its successor.
pub mod Kept
pub mod Handed
