-- The marked cases of transforming (01: P1 to P8), each computed by the definition.
use Rattle.std.specs.Prelude.{◌≡◌}
use Rattle.ot.specs.Edit.{Nothing, Delete, Insert, transformed}

pub record TransformCases : Type 0 where
  pub p1 : transformed (Insert 2 7 1) (Insert 2 8 2) ≡ Insert 2 7 1
  pub p2 : transformed (Insert 2 8 2) (Insert 2 7 1) ≡ Insert 3 8 2
  pub p3 : transformed (Insert 2 7 1) (Delete 2) ≡ Insert 2 7 1
  pub p4 : transformed (Insert 3 7 1) (Delete 2) ≡ Insert 2 7 1
  pub p5 : transformed (Delete 2) (Insert 2 7 1) ≡ Delete 3
  pub p6 : transformed (Delete 1) (Insert 2 7 1) ≡ Delete 1
  pub p7 : transformed (Delete 2) (Delete 2) ≡ Nothing
  pub p8 : transformed (Delete 3) (Delete 2) ≡ Delete 2
