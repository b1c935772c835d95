-- The lock chamber controller. Chamber: what each call answers. Lock: the controllers of a lock above the kernel. Safe: the provisos and the
-- theorem's statement.
pub mod Chamber
pub mod Lock
pub mod Safe
