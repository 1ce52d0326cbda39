-- The marked cases of 01 and ours for ranks and for taking back, as one statement about the definitions.
use Rattle.std.specs.Prelude.{ℕ, ◌≡◌, true, false, List, [], ◌∷◌, map, replicate}
use Rattle.ot.specs.Edit.{Delete}
use Rattle.ot.specs.Cases.{TransformCases}
use Rattle.wire.specs.Cases as bytes
use Rattle.list.specs.Places.{Place, place_of}
use Rattle.model.specs.Ranks.{line_ranks}
use Rattle.model.specs.Inverse.{inverse_stands}
use Rattle.model.specs.Client.{open_client}
use Rattle.model.specs.Server.{open_server}
use Rattle.model.specs.Sheet.{Call, insert, delete, take_back, send, receive}
use Rattle.model.specs.Run.{number_of, run, start}
use Rattle.model.specs.Ours.{ours}

-- 17 bytes, enough for any message
abbrev pub lent : List ℕ
lent = replicate 17 0

-- an item with its maker's line and number
abbrev pub step : ℕ → ℕ → ℕ → Place
step x line number = place_of (record { line = line; number = number }) x

-- the lists of these ends after these calls, at a sheet of n clients
abbrev pub lists_after : ℕ → List ℕ → List ℕ → List ℕ → List Call → List (List Place)
lists_after n ranks items ends calls =
    let s = run ours n (start ours n ranks items) calls in
    map (λ a. ours.items (s.ends a)) ends

-- of the server and of two clients, whose lines are their ranks
abbrev pub two_after : List ℕ → List Call → List (List Place)
two_after items calls = lists_after 2 (line_ranks 2) items (0 ∷ 1 ∷ 2 ∷ []) calls

-- P11: line by line, each `up` and `down` a sending and a taking
abbrev pub p11 : List Call
p11 =
    insert 1 1 30
    ∷ delete 2 2
    ∷ send 1 1 1 lent
    ∷ receive 0 0
    ∷ send 2 2 1 lent
    ∷ receive 0 1
    ∷ send 0 1 1 lent
    ∷ receive 1 2
    ∷ send 0 2 1 lent
    ∷ receive 2 3
    ∷ []

-- P12: the server takes client 2's edit and then client 1's two; then each client takes what it lacks
abbrev pub p12 : List Call
p12 =
    delete 1 1
    ∷ insert 1 1 40
    ∷ insert 2 2 50
    ∷ send 2 2 1 lent
    ∷ receive 0 0
    ∷ send 1 1 1 lent
    ∷ receive 0 1
    ∷ send 1 1 2 lent
    ∷ receive 0 2
    ∷ send 0 1 1 lent
    ∷ receive 1 3
    ∷ send 0 2 1 lent
    ∷ receive 2 4
    ∷ send 0 2 2 lent
    ∷ receive 2 5
    ∷ []

-- The lead: clients 1 and 5 insert at one place, and each takes the other's.
abbrev pub tie : List Call
tie =
    insert 1 1 30
    ∷ insert 5 1 50
    ∷ send 1 1 1 lent
    ∷ receive 0 0
    ∷ send 5 5 1 lent
    ∷ receive 0 1
    ∷ send 0 1 1 lent
    ∷ receive 1 2
    ∷ send 0 5 1 lent
    ∷ receive 5 3
    ∷ []

abbrev pub tie_after : List ℕ → List (List Place)
tie_after ranks = lists_after 5 ranks (10 ∷ []) (0 ∷ 1 ∷ 5 ∷ []) tie

-- Client 2 deletes the item that client 1 has put there, and client 1 takes that.
abbrev pub gone : List Call
gone =
    insert 1 1 30
    ∷ send 1 1 1 lent
    ∷ receive 0 0
    ∷ send 0 2 1 lent
    ∷ receive 2 1
    ∷ delete 2 1
    ∷ send 2 2 1 lent
    ∷ receive 0 2
    ∷ send 0 1 1 lent
    ∷ receive 1 3
    ∷ []

-- what taking back is answered at client 1 after these calls
abbrev pub taking_back : List Call → ℕ
taking_back calls = number_of ours (run ours 2 (start ours 2 (line_ranks 2) []) calls) (take_back 1)

pub record MarkedCases : Type 0 where
  pub p1_p8 : TransformCases
  pub p9_p10 : bytes.Cases
  pub p11_lists : two_after (10 ∷ 20 ∷ []) p11 ≡ replicate 3 (step 30 1 1 ∷ step 10 0 1 ∷ [])
  pub p12_lists : two_after (10 ∷ 20 ∷ 30 ∷ []) p12 ≡ replicate 3 (step 40 1 2 ∷ step 50 2 1 ∷ step 20 0 2 ∷ step 30 0 3 ∷ [])
  -- client 1 stays where lines are ranks, client 5 where it has rank 1
  pub by_line_lem : tie_after (line_ranks 5) ≡ replicate 3 (step 30 1 1 ∷ step 50 5 1 ∷ step 10 0 1 ∷ [])
  pub lead_first : tie_after (2 ∷ 3 ∷ 4 ∷ 5 ∷ 1 ∷ []) ≡ replicate 3 (step 50 5 1 ∷ step 30 1 1 ∷ step 10 0 1 ∷ [])
  -- two alike, one past n, one 0, too few, too many; and a ranking
  pub ranked : map (λ ranks. (open_server 2 ranks []).refusal) ((1 ∷ 1 ∷ []) ∷ (1 ∷ 3 ∷ []) ∷ (0 ∷ 1 ∷ []) ∷ (1 ∷ []) ∷ (2 ∷ 1 ∷ 3 ∷ []) ∷ (2 ∷ 1 ∷ []) ∷ [])
      ≡ 16 ∷ 16 ∷ 16 ∷ 16 ∷ 16 ∷ 0 ∷ []
  -- question 1 comes first
  pub one_first : ((open_server 9 [] []).refusal ≡ 1) × ((open_client 2 3 [] []).refusal ≡ 1)
  -- a delete is taken back, which brings the item as a new step of client 1, and that is taken back
  pub taken_back_lem : map (λ calls. lists_after 1 (line_ranks 1) (10 ∷ 20 ∷ []) (1 ∷ []) (delete 1 1 ∷ calls)) ((take_back 1 ∷ []) ∷ (take_back 1 ∷ take_back 1 ∷ []) ∷ [])
      ≡ ((step 10 1 2 ∷ step 20 0 2 ∷ []) ∷ []) ∷ ((step 20 0 2 ∷ []) ∷ []) ∷ []
  -- nothing was made; an insert was; the inserted item is gone
  pub nothing_to_take_back : map taking_back ([] ∷ (insert 1 1 30 ∷ []) ∷ gone ∷ []) ≡ 17 ∷ 0 ∷ 17 ∷ []
  -- a stored inverse stands at 1 to 513
  pub stands : map (λ p. inverse_stands (Delete p)) (0 ∷ 1 ∷ 513 ∷ 514 ∷ []) ≡ false ∷ true ∷ true ∷ false ∷ []
