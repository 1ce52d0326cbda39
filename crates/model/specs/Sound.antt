-- Question 2 is kept by every call: whatever a sound end is handed, the end that comes back is sound. It need not be one that any list of
-- calls leads to.
use Rattle.std.specs.Prelude.{ℕ, ◌≡◌, true, List}
use Rattle.model.specs.Client.{Client, sound_client, open_client, insert_client, delete_client, take_back_client, take_client}
use Rattle.model.specs.Server.{Server, sound_server, open_server, take_server}

pub record KeepsSound : Type 0 where
  pub opens_client : (n line : ℕ) (ranks items : List ℕ) → (open_client n line ranks items).refusal ≡ 0 → sound_client (open_client n line ranks items).end ≡ true
  pub inserts : (c : Client) (p x : ℕ) → sound_client c ≡ true → sound_client (insert_client c p x).end ≡ true
  pub deletes : (c : Client) (p : ℕ) → sound_client c ≡ true → sound_client (delete_client c p).end ≡ true
  pub takes_back : (c : Client) → sound_client c ≡ true → sound_client (take_back_client c).end ≡ true
  pub client_takes_lem : (c : Client) (bytes : List ℕ) → sound_client c ≡ true → sound_client (take_client c bytes).end ≡ true
  pub opens_server : (n : ℕ) (ranks items : List ℕ) → (open_server n ranks items).refusal ≡ 0 → sound_server (open_server n ranks items).end ≡ true
  pub server_takes_lem : (s : Server) (bytes : List ℕ) → sound_server s ≡ true → sound_server (take_server s bytes).end ≡ true
