use Prim.Native.Nat.{◌-◌}
use mathlib.Core.Path.{◌≡◌, refl}
use native.Mathlib.Omega.{arith}
use Rattle.sheet_print.proofs.Places.{coming_turn, coming_less, coming_at}
use Rattle.sheet_print.proofs.put_digits.Goals as goal

pub loop-k-init : goal.loop-k-init
loop-k-init c = record {
  to = let h = c.requires.1 in omega arith;
  coming = λ k e. let q : k ≡ c.args.from = omega arith in rw q record { few = c.requires.2; left = c.requires.0; come = refl };
}

pub put_digit-d-requires : goal.put_digit-d-requires
put_digit-d-requires c =
    let h = c.loop-k-test.true in coming_less _ _ _ _ _ _ (c.loop-k.invariant.coming (c.loop-k.k - 1) (omega arith)) c.power.ensures

pub loop-k-preserved : goal.loop-k-preserved
loop-k-preserved c =
    let h = c.loop-k-test.true in
    record {
      to = omega arith;
      coming = λ k e.
          let q : k ≡ c.loop-k.k - 1 - 1 = omega arith in
          rw q (coming_turn _ _ _ _ _ _ _ _ (c.loop-k.invariant.coming (c.loop-k.k - 1) (omega arith)) (omega arith) c.power.ensures c.put_digit-d.ensures);
    }

pub returns : goal.returns
returns c =
    let h = c.loop-k-test.false in
    let l = c.loop-k.invariant.to in
    coming_at _ _ _ _ _ _ (c.loop-k.invariant.coming (c.loop-k.k - 1) (omega arith)) (omega arith) (omega arith)
