-- An edit: its form and, where it is an insert, the item that it brings; and what it does to a list.
use Rattle.std.specs.Prelude.{ℕ, suc, ◌+◌, ◌-◌, Bool, true, ◌&&◌, List, ◌∷◌, ◌++◌, leb, take, drop}
use Rattle.ot.specs.declared.Form.{Form}
use Rattle.ot.specs.declared.Form.TheVariants as form
use Rattle.ot.specs.Form.{moved}

-- 01: an insert (position, item, priority), a delete (position) or nothing
pub data Edit : Type 0 where
  Nothing : Edit
  Delete : (p : ℕ) → Edit
  Insert : (p x r : ℕ) → Edit

-- The code has form and item side by side. An edit that inserts nothing has item 0.
abbrev pub form_of : Edit → Form
form_of Nothing = form.Nothing
form_of (Delete p) = form.Delete p
form_of (Insert p x r) = form.Insert p r

abbrev pub item_of : Edit → ℕ
item_of Nothing = 0
item_of (Delete p) = 0
item_of (Insert p x r) = x

-- the edit of a form, with the item beside it
abbrev pub edit : Form → ℕ → Edit
edit form.Nothing x = Nothing
edit (form.Delete p) x = Delete p
edit (form.Insert p r) x = Insert p x r

-- The form changes, the item stays.
unfoldable pub transformed : Edit → Edit → Edit
unfolding moved
transformed a b = edit (moved (form_of a) (form_of b)) (item_of a)

-- The place i, counted from 0, of a list of any items: put in before it, taken out.
abbrev pub inserted_at : {A : Type 0} → ℕ → A → List A → List A
inserted_at i x l = take i l ++ (x ∷ drop i l)

abbrev pub deleted_at : {A : Type 0} → ℕ → List A → List A
deleted_at i l = take i l ++ drop (suc i) l

-- What an edit makes of a list in which an item x stands as f x: alone, or with what the list holds beside its items.
unfoldable pub applied_as : {A : Type 0} → (ℕ → A) → Edit → List A → List A
applied_as f Nothing l = l
applied_as f (Delete p) l = deleted_at (p - 1) l
applied_as f (Insert p x r) l = inserted_at (p - 1) (f x) l

-- of a list of items
abbrev pub applied : Edit → List ℕ → List ℕ
applied e l = applied_as (λ x. x) e l

-- how many items a list of n has after the edit
unfoldable pub size_after : Edit → ℕ → ℕ
size_after Nothing n = n
size_after (Delete p) n = n - 1
size_after (Insert p x r) n = n + 1

-- The edit's position fits a list of n items: 1 to n for a delete, 1 to n + 1 for an insert.
unfoldable pub fits : Edit → ℕ → Bool
fits Nothing n = true
fits (Delete p) n = leb 1 p && leb p n
fits (Insert p x r) n = leb 1 p && leb p (n + 1)
