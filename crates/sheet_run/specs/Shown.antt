-- What showing the lists of clients asks.
use Rattle.std.specs.Prelude.{ℕ, ◌≤◌, ◌<◌, ◌≡◌, List, length, get_or}
use Rattle.limits.specs.Limits.{max_lines, max_items}
use Rattle.client.specs.declared.Client.{Client}
use Rattle.client.specs.View.{size}

pub record Shown (cs : List Client) : Type 0 where
  pub few : length cs ≤ max_lines
  pub long : (i : ℕ) (d : Client) → i < length cs → length (get_or cs i d).words ≡ size
  pub within : (i : ℕ) (d : Client) → i < length cs → (get_or cs i d).counts.len ≤ max_items
