use mathlib.Core.Path.{◌≡◌, refl, ap, sym, ◌∙◌}
use Rattle.std.specs.Prelude.{Result, Ok, Err, ⊤}
use Rattle.refusal.specs.declared.Refusal.{Refusal}
use Rattle.model.specs.Questions.{Answer}
use Rattle.line.specs.Taking.{done_of}
use Rattle.client.specs.declared.Client.{Client}
use Rattle.test_timing.specs.Opened.{client_with}
use Rattle.test_timing.proofs.client_with.Goals as goal

end_is : (q : Result ⊤ Refusal) (e : Client) → e ≡ (done_of q e).end
end_is (Ok x) e = refl
end_is (Err r) e = refl

pub returns : goal.returns
unfolding client_with
returns c = end_is c.open.result c.open.new.self ∙ ap (λ (a : Answer Client). a.end) c.open.ensures
