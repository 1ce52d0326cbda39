-- One line's grid: the sets (i, j) of its first i edits and the first j of all other lines, and the forms and lists there.
use Prim.Native.Nat.{ℕ, suc, ◌-◌, ◌≤◌, ◌<◌}
use native.Mathlib.Nat.{le_refl, le_trans}
use native.Mathlib.Omega.{arith}
use mathlib.Core.Path.{◌≡◌, refl, sym, ap, ◌∙◌, subst}
use mathlib.Core.Logic.{◌≢◌, ◌⊎◌, inl, inr}
use mathlib.Core.Bool.{Bool, true, false, true≢false}
use mathlib.Core.List.{List, [], ◌∷◌, ◌++◌, append-nil}
use lib.Dec.{T, ltb, eqb, eqb→eq, eqb_refl, lt→ltb, ltb→lt}
use lib.ListN.{length, get_or, length-append, get_or-append}
use Rattle.jupiter.specs.Algebra.{Algebra, Laws}
use Rattle.jupiter.specs.Made.{Name, Made, same, holds, select, is_by, mine, others}
use Rattle.jupiter.specs.Form.{form, list_at}
use Rattle.jupiter.specs.Point.{point, blank, own, oth, own_form, oth_form}
use Rattle.jupiter.proofs.Lists as L
use Rattle.jupiter.proofs.Lists.{All}
use Rattle.jupiter.proofs.Forms.{Inside, form_last}

pub is_true : (b : Bool) → T b → b ≡ true
is_true true h = refl
is_true false h = absurd h

pub to_T : (b : Bool) → b ≡ true → T b
to_T b e = rw e tt

-- a test that leads to an absurdity fails
pub is_false : (b : Bool) → (b ≡ true → ⊥) → b ≡ false
is_false true h = absurd (h refl)
is_false false h = refl

pub ltb_true : (m n : ℕ) → m < n → ltb m n ≡ true
ltb_true m n h = is_true (ltb m n) (lt→ltb m n h)

pub ltb_lt : (m n : ℕ) → ltb m n ≡ true → m < n
ltb_lt m n e = ltb→lt m n (to_T _ e)

pub ltb_false : (m n : ℕ) → n ≤ m → ltb m n ≡ false
ltb_false m n h = is_false (ltb m n) (λ e. let k : m < n = ltb_lt m n e in absurd (omega arith))

pub eqb_eq : (m n : ℕ) → eqb m n ≡ true → m ≡ n
eqb_eq m n e = eqb→eq m n (to_T _ e)

pub eqb_same : (n : ℕ) → eqb n n ≡ true
eqb_same n = is_true _ (eqb_refl n)

pub eqb_differ : (m n : ℕ) → m ≢ n → eqb m n ≡ false
eqb_differ m n h = is_false (eqb m n) (λ e. h (eqb_eq m n e))

-- One line's part replaced, the others' as they were (`History.at`): what holds of line l as it is now, and of every other line as it was, holds of each.
pub by_line_lem : (l : ℕ) (P : ℕ → Bool → Type 0) → P l true → ((k : ℕ) → eqb l k ≡ false → P k false) → (k : ℕ) → P k (eqb l k)
by_line_lem l P here there k = go (eqb l k) refl
  where
    go : (b : Bool) → eqb l k ≡ b → P k b
    go true q = subst (λ r. P r true) (eqb_eq l k q) here
    go false q = there k q

pub not_line : (l k : ℕ) → eqb l k ≡ false → l ≢ k
not_line l k q e = true≢false (sym (eqb_same l) ∙ ap (eqb l) e ∙ q)

-- below m + 1: below m, or m
pub below_suc : (i m : ℕ) → i < suc m → (i < m) ⊎ (i ≡ m)
below_suc i m h = go (ltb i m) refl
  where
    go : (b : Bool) → ltb i m ≡ b → (i < m) ⊎ (i ≡ m)
    go true e = inl (ltb_lt i m e)
    go false e = inr (let k : ¬ (i < m) = λ lt. true≢false (sym (ltb_true i m lt) ∙ e) in omega arith)

-- the edit fits the list d, and gives d'
pub record Edge (𝓐 : Algebra) (e : 𝓐.Edit) (d d' : 𝓐.Doc) : Type 0 where
  pub fits : T (𝓐.fits e d)
  pub gives : d' ≡ 𝓐.apply e d

-- The one use of the square law: from the near sides of a cell of the grid to its far sides.
pub far_sides : (𝓐 : Algebra) → Laws 𝓐 → (m n : Name) → m.line ≢ n.line → (a b a' b' : 𝓐.Edit) (x y z u : 𝓐.Doc) → T (𝓐.by m a) → T (𝓐.by n b)
    → Edge 𝓐 a x y → Edge 𝓐 b x z → a' ≡ 𝓐.transform a b → b' ≡ 𝓐.transform b a → u ≡ 𝓐.apply a' z → Edge 𝓐 a' z u × Edge 𝓐 b' y u
far_sides 𝓐 laws m n m≢n a b a' b' x y z u ma nb ea eb pa pb pu = (
  record { fits = rw (pa, eb.gives) (laws.square_fits m n a b x m≢n ma nb ea.fits eb.fits); gives = pu },
  record {
    fits = rw (pb, ea.gives) (laws.square_fits n m b a x (λ e. m≢n (sym e)) nb ma eb.fits ea.fits);
    gives = rw (pu, pa, pb, ea.gives, eb.gives) (sym (laws.square m n a b x m≢n ma nb ea.fits eb.fits));
  },
)

module _ {𝓐 : Algebra} where
  -- how many edits of other lines the maker had taken: its context has them, and its own earlier ones
  abbrev pub seen_of : Made 𝓐 → ℕ
  seen_of e = length e.context - (e.name.number - 1)

  -- how many of line l's edits stand before the (j + 1)-th of the others
  abbrev pub lag_of : ℕ → List (Made 𝓐) → ℕ → ℕ
  lag_of l w j = L.lag (is_by l) blank w j

  -- what w says of these stays as it is in w'
  pub record Grows (l : ℕ) (w w' : List (Made 𝓐)) : Type 0 where
    pub more_own : length (mine l w) ≤ length (mine l w')
    pub more_oth : length (others l w) ≤ length (others l w')
    pub own_same : (i : ℕ) → i < length (mine l w) → own l w' i ≡ own l w i
    pub oth_same : (j : ℕ) → j < length (others l w) → oth l w' j ≡ oth l w j
    pub lag_same : (j : ℕ) → j < length (others l w) → lag_of l w' j ≡ lag_of l w j
    pub point_same : (i j : ℕ) → i ≤ length (mine l w) → j ≤ length (others l w) → point l w' i j ≡ point l w i j

  pub grows_refl : (l : ℕ) (w : List (Made 𝓐)) → Grows l w w
  grows_refl l w =
      record {
        more_own = le_refl _;
        more_oth = le_refl _;
        own_same = λ i h. refl;
        oth_same = λ j h. refl;
        lag_same = λ j h. refl;
        point_same = λ i j h g. refl;
      }

  pub grows_trans : (l : ℕ) (w w' w'' : List (Made 𝓐)) → Grows l w w' → Grows l w' w'' → Grows l w w''
  grows_trans l w w' w'' g h =
      record {
        more_own = le_trans g.more_own h.more_own;
        more_oth = le_trans g.more_oth h.more_oth;
        own_same = λ i lt. h.own_same i (le_trans lt g.more_own) ∙ g.own_same i lt;
        oth_same = λ j lt. h.oth_same j (le_trans lt g.more_oth) ∙ g.oth_same j lt;
        lag_same = λ j lt. h.lag_same j (le_trans lt g.more_oth) ∙ g.lag_same j lt;
        point_same = λ i j a b. h.point_same i j (le_trans a g.more_own) (le_trans b g.more_oth) ∙ g.point_same i j a b;
      }

  -- line l makes an edit
  pub mine_own : (l : ℕ) (w : List (Made 𝓐)) (o : Made 𝓐) → is_by l o ≡ true → mine l (w ++ (o ∷ [])) ≡ mine l w ++ (o ∷ [])
  unfolding select
  mine_own l w o e = L.select_in (is_by l) blank w o [] e

  pub others_own : (l : ℕ) (w : List (Made 𝓐)) (o : Made 𝓐) → is_by l o ≡ true → others l (w ++ (o ∷ [])) ≡ others l w
  others_own l w o e = L.reject_out (is_by l) blank w o [] e ∙ ap (others l) (append-nil w)

  pub grows_own : (l : ℕ) (w : List (Made 𝓐)) (o : Made 𝓐) → is_by l o ≡ true → Grows l w (w ++ (o ∷ []))
  grows_own l w o e =
      record {
        more_own = omega (arith, ap length (mine_own l w o e) ∙ length-append (mine l w) (o ∷ []));
        more_oth = omega (arith, ap length (others_own l w o e));
        own_same = λ i lt. ap (λ r. get_or r i blank) (mine_own l w o e) ∙ get_or-append (mine l w) (o ∷ []) blank i lt;
        oth_same = λ j lt. ap (λ r. get_or r j blank) (others_own l w o e);
        lag_same = λ j lt. L.lag_append (is_by l) blank w (o ∷ []) j lt;
        point_same = λ i j a b. L.firsts_insert (is_by l) blank w o [] i j (inl (e, a)) ∙ ap (λ r. point l r i j) (append-nil w);
      }

  -- the server takes an edit of another line; line l's untaken edits stay behind it
  module _ (l : ℕ) (xs : List (Made 𝓐)) (g : Made 𝓐) (ys : List (Made 𝓐)) (e : is_by l g ≡ false) (own_ys : All (λ y. is_by l y ≡ true) ys) where
    pub mine_oth : mine l (xs ++ g ∷ ys) ≡ mine l (xs ++ ys)
    mine_oth = L.select_out (is_by l) blank xs g ys e

    pub others_oth : others l (xs ++ g ∷ ys) ≡ others l xs ++ (g ∷ [])
    others_oth = L.reject_in (is_by l) blank xs g ys e ∙ ap (λ r. others l xs ++ g ∷ r) (L.reject_all (is_by l) blank ys own_ys)

    pub others_before : others l (xs ++ ys) ≡ others l xs
    others_before = L.reject_append (is_by l) blank xs ys ∙ ap (λ r. others l xs ++ r) (L.reject_all (is_by l) blank ys own_ys) ∙ append-nil (others l xs)

    pub grows_oth : Grows l (xs ++ ys) (xs ++ g ∷ ys)
    grows_oth =
        record {
          more_own = omega (arith, ap length mine_oth);
          more_oth = omega (arith, ap length others_oth ∙ length-append (others l xs) (g ∷ []), ap length others_before);
          own_same = λ i lt. ap (λ r. get_or r i blank) mine_oth;
          oth_same = λ j lt. let lt' : j < length (others l xs) = omega (arith, ap length others_before) in
              ap (λ r. get_or r j blank) others_oth ∙ get_or-append (others l xs) (g ∷ []) blank j lt'
              ∙ ap (λ r. get_or r j blank) (sym others_before);
          lag_same = λ j lt. let lt' : j < length (others l xs) = omega (arith, ap length others_before) in
              L.lag_append (is_by l) blank xs (g ∷ ys) j lt' ∙ sym (L.lag_append (is_by l) blank xs ys j lt');
          point_same = λ i j a b. let b' : j ≤ length (others l xs) = omega (arith, ap length others_before) in
              L.firsts_insert (is_by l) blank xs g ys i j (inr (e, b'));
        }

  pub own_form_same : (l : ℕ) (w w' : List (Made 𝓐)) → Grows l w w' → (i j : ℕ) → i < length (mine l w) → j ≤ length (others l w) → own_form l w' i j ≡ own_form l w i j
  own_form_same l w w' g i j a b = ap (λ x. form x (point l w' i j)) (g.own_same i a) ∙ ap (form (own l w i)) (g.point_same i j (omega arith) b)

  pub oth_form_same : (l : ℕ) (w w' : List (Made 𝓐)) → Grows l w w' → (i j : ℕ) → i ≤ length (mine l w) → j < length (others l w) → oth_form l w' i j ≡ oth_form l w i j
  oth_form_same l w w' g i j a b = ap (λ x. form x (point l w' i j)) (g.oth_same j b) ∙ ap (form (oth l w j)) (g.point_same i j a (omega arith))

  -- ---- cells

  pub own_cell : (l : ℕ) (w : List (Made 𝓐)) (i j : ℕ) → j < length (others l w)
      → ((k : ℕ) → k < i → k < length (mine l w) → Inside (own l w i).context (own l w k)) → holds (own l w i).context (oth l w j).name ≡ false
      → own_form l w i (suc j) ≡ 𝓐.transform (own_form l w i j) (oth_form l w i j)
  own_cell l w i j lt inside out =
      let s = L.firsts_between (is_by l) blank (Inside (own l w i).context) w i j lt inside in
      ap (form (own l w i)) s.more ∙ form_last (own l w i) s.before (oth l w j) s.after out s.behind
      ∙ ap (λ C. 𝓐.transform (form (own l w i) C) (form (oth l w j) C)) (sym s.less)

  pub oth_cell : (l : ℕ) (w : List (Made 𝓐)) (i j : ℕ) → i < length (mine l w) → ((k : ℕ) → k < j → lag_of l w k ≤ i)
      → holds (oth l w j).context (own l w i).name ≡ false → oth_form l w (suc i) j ≡ 𝓐.transform (oth_form l w i j) (own_form l w i j)
  oth_cell l w i j lt lags out =
      ap (form (oth l w j)) (L.firsts_snoc (is_by l) blank w i j lt lags) ∙ form_last (oth l w j) (point l w i j) (own l w i) [] out tt
      ∙ ap (λ C. 𝓐.transform (form (oth l w j) C) (form (own l w i) C)) (append-nil (point l w i j))

  -- ---- what is known of the contexts

  pub record Contexts (l : ℕ) (w : List (Made 𝓐)) : Type 0 where
    pub own_number : (i : ℕ) → i < length (mine l w) → (own l w i).name.number ≡ suc i
    pub oth_inj : (j k : ℕ) → j < length (others l w) → k < length (others l w) → same (oth l w j).name (oth l w k).name ≡ true → j ≡ k
    -- a client's edit knows the client's earlier ones, and the others that the client had taken
    pub ctx_own : (i k : ℕ) → i < length (mine l w) → k < i → holds (own l w i).context (own l w k).name ≡ true
    -- and none of the client's that is not earlier
    pub ctx_mine : (i x : ℕ) → i < length (mine l w) → holds (own l w i).context (record { line = l; number = x }) ≡ true → x ≤ i
    pub ctx_oth : (i j : ℕ) → i < length (mine l w) → j < length (others l w) → holds (own l w i).context (oth l w j).name ≡ ltb j (seen_of (own l w i))
    -- another line's edit knows of line l's only what the server had taken before it
    pub oth_ctx : (j x : ℕ) → j < length (others l w) → holds (oth l w j).context (record { line = l; number = x }) ≡ true → x ≤ lag_of l w j
    pub seen_le : (i : ℕ) → i < length (mine l w) → seen_of (own l w i) ≤ length (others l w)
    -- what a client had taken when it made an edit was served behind earlier edits of the client only
    pub causal : (i j : ℕ) → i < length (mine l w) → j < length (others l w) → j < seen_of (own l w i) → lag_of l w j ≤ i
    -- what a client has seen never falls
    pub seen_up : (i k : ℕ) → i < length (mine l w) → k < i → seen_of (own l w k) ≤ seen_of (own l w i)
    pub own_by : (i : ℕ) → i < length (mine l w) → T (𝓐.by (own l w i).name (own l w i).edit)
    pub oth_by : (j : ℕ) → j < length (others l w) → T (𝓐.by (oth l w j).name (oth l w j).edit)

  pub own_line : (l : ℕ) (w : List (Made 𝓐)) (i : ℕ) → i < length (mine l w) → (own l w i).name.line ≡ l
  own_line l w i h = sym (eqb_eq l _ (L.select_passes (is_by l) blank w i h))

  pub oth_line : (l : ℕ) (w : List (Made 𝓐)) (j : ℕ) → j < length (others l w) → l ≢ (oth l w j).name.line
  oth_line l w j h e = true≢false (sym (eqb_same l) ∙ ap (eqb l) e ∙ L.reject_fails (is_by l) blank w j h)

  pub own_name : (l : ℕ) (w : List (Made 𝓐)) → Contexts l w → (i : ℕ) → i < length (mine l w) → (own l w i).name ≡ record { line = l; number = suc i }
  own_name l w c i h = λ t. record { line = own_line l w i h t; number = c.own_number i h t }

  -- the edit (i + 1) of line l is not in the context of another's that was served behind i of them at most
  pub oth_out : (l : ℕ) (w : List (Made 𝓐)) → Contexts l w → (i j : ℕ) → i < length (mine l w) → j < length (others l w) → lag_of l w j ≤ i
      → holds (oth l w j).context (own l w i).name ≡ false
  oth_out l w c i j hi hj le = go (holds (oth l w j).context (own l w i).name) refl
    where
      go : (b : Bool) → holds (oth l w j).context (own l w i).name ≡ b → holds (oth l w j).context (own l w i).name ≡ false
      go false e = e
      go true e =
          let x : suc i ≤ lag_of l w j = c.oth_ctx j (suc i) hj (ap (holds (oth l w j).context) (sym (own_name l w c i hi)) ∙ e) in
          absurd (omega arith)

  -- ---- the good points, and the lists there

  -- A set that some end could have applied: with each edit it has that edit's context.
  pub record Good (l : ℕ) (w : List (Made 𝓐)) (i j : ℕ) : Type 0 where
    pub own_le : i ≤ length (mine l w)
    pub oth_le : j ≤ length (others l w)
    pub lags : (k : ℕ) → k < j → lag_of l w k ≤ i
    pub seens : (k : ℕ) → k < i → seen_of (own l w k) ≤ j

  pub good_back : (l : ℕ) (w w' : List (Made 𝓐)) → Grows l w w' → (i j : ℕ) → i ≤ length (mine l w) → j ≤ length (others l w) → Good l w' i j → Good l w i j
  good_back l w w' g i j a b good =
      record {
        own_le = a;
        oth_le = b;
        lags = λ k lt. subst (λ x. x ≤ i) (g.lag_same k (le_trans lt b)) (good.lags k lt);
        seens = λ k lt. subst (λ x. seen_of x ≤ j) (g.own_same k (le_trans lt a)) (good.seens k lt);
      }

  pub good_on : (l : ℕ) (w w' : List (Made 𝓐)) → Grows l w w' → (i j : ℕ) → Good l w i j → Good l w' i j
  good_on l w w' g i j good =
      record {
        own_le = le_trans good.own_le g.more_own;
        oth_le = le_trans good.oth_le g.more_oth;
        lags = λ k lt. subst (λ x. x ≤ i) (sym (g.lag_same k (le_trans lt good.oth_le))) (good.lags k lt);
        seens = λ k lt. subst (λ x. seen_of x ≤ j) (sym (g.own_same k (le_trans lt good.own_le))) (good.seens k lt);
      }

module _ {𝓐 : Algebra} (d : 𝓐.Doc) where
  abbrev pub doc_at : ℕ → List (Made 𝓐) → ℕ → ℕ → 𝓐.Doc
  doc_at l w i j = list_at d (point l w i j)

  abbrev pub OwnEdge : ℕ → List (Made 𝓐) → ℕ → ℕ → Type 0
  OwnEdge l w i j = Edge 𝓐 (own_form l w i j) (doc_at l w i j) (doc_at l w (suc i) j)

  abbrev pub OthEdge : ℕ → List (Made 𝓐) → ℕ → ℕ → Type 0
  OthEdge l w i j = Edge 𝓐 (oth_form l w i j) (doc_at l w i j) (doc_at l w i (suc j))

  -- from a good point every next good point is reached by the form there, and it fits
  pub record Grid (l : ℕ) (w : List (Made 𝓐)) : Type 0 where
    pub contexts : Contexts l w
    pub own_edge : (i j : ℕ) → Good l w i j → i < length (mine l w) → seen_of (own l w i) ≤ j → OwnEdge l w i j
    pub oth_edge : (i j : ℕ) → Good l w i j → j < length (others l w) → lag_of l w j ≤ i → OthEdge l w i j
