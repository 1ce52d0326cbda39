-- 01's limits by name, which stand below all that cites them.
pub use Rattle.limits.specs.Limits.{max_lines, max_inserts, max_edits, max_others, max_pending, max_items, max_initial, max_packet}
