-- The edits of a sheet as the edits that the theory of the crate jupiter speaks of.
use Rattle.std.specs.Prelude.{ℕ, Bool, ◌&&◌, cond, List, leb, eqb, length}
use Rattle.ot.specs.Edit.{Edit, Nothing, fits, transformed}
use Rattle.list.specs.declared.Origin.{Origin}
use Rattle.list.specs.Places.{Place, applied_by}
use Rattle.jupiter.specs.Name.{Name, same}
use Rattle.jupiter.specs.Algebra.{Algebra}
use Rattle.model.specs.Questions.{between}
use Rattle.model.specs.Cross.{priority, inserts_of}
use Rattle.model.specs.Ranks.{rank_of}

-- An edit and its origin (02: N4): the line of the client that made it, and its number there.
pub record Named : Type 0 where
  pub origin : Origin
  pub edit : Edit

abbrev pub no_origin : Origin
no_origin = record { line = 0; number = 0 }

-- the origin as the name of an edit
abbrev pub name_of : Origin → Name
name_of o = record { line = o.line; number = o.number }

-- Transforming leaves the origin alone, applying puts it beside the item.
abbrev pub transformed_named : Named → Named → Named
transformed_named a b = record { origin = a.origin; edit = transformed a.edit b.edit }

abbrev pub applied_named : Named → List Place → List Place
applied_named e l = applied_by e.origin e.edit l

-- which edits may have a name
abbrev pub Rule : Type 0
Rule = Name → Named → Bool

abbrev pub edits_by : Rule → Algebra
edits_by by =
    record {
      Edit = Named;
      Doc = List Place;
      nothing = record { origin = no_origin; edit = Nothing };
      transform = transformed_named;
      apply = applied_named;
      fits = λ e l. fits e.edit (length l);
      by = by;
      size = λ l. length l;
      grows = λ e. inserts_of e.edit;
    }

-- The theory has a line for every number. One that the sheet does not have gets its number as rank, so that no two lines have the same.
abbrev pub any_rank : List ℕ → ℕ → ℕ
any_rank ranks l = cond (between 1 (length ranks) l) (rank_of ranks l) l

-- The origin is the name, of a line from 1 on, and the priority of a client's inserts is its rank.
unfoldable pub by_rank : List ℕ → Rule
by_rank ranks x e = leb 1 x.line && (same x (name_of e.origin) && priority (eqb (any_rank ranks x.line)) e.edit)

abbrev pub edits : List ℕ → Algebra
edits ranks = edits_by (by_rank ranks)
