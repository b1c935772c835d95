-- What the contracts and laws of `format_commands` cite beside `model`.
pub mod Results
