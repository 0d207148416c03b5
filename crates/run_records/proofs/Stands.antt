-- What holds of a call holds of the calls that stand in for it.
use Rattle.std.proofs.Common.{ℕ, List, [], ◌∷◌, refl, sym, ◌∙◌, subst}
use Rattle.run_model.specs.Acts.{World, Handler}
use Rattle.run_calls.specs.Calls.{Call, Each}
use Rattle.run_records.specs.Records.{Association, Record, IsChanged, StandsIn}
use Rattle.run_records.specs.Rows.{IsRow, IsBound, Respects}
use Rattle.run_records.specs.Serving.{SameCall, SameCalls}

module _ (r : Record) (place : Association) where
  pub stands_itself : (s : ℕ) (w : World) → StandsIn r place s w w
  stands_itself s w = record { out = refl; input = refl; left = refl; cells = λ l read. refl }

  pub stands_trans : (s : ℕ) (a b c : World) → StandsIn r place s a b → StandsIn r place s b c → StandsIn r place s a c
  stands_trans s a b c p q = record {
    out = p.out ∙ q.out;
    input = p.input ∙ q.input;
    left = p.left ∙ q.left;
    cells = λ l read. p.cells l read ∙ q.cells l read;
  }

  pub same_call_trans : (a b c : Call) → SameCall r place a b → SameCall r place b c → SameCall r place a c
  same_call_trans a b c p q = record {
    site = p.site ∙ q.site;
    actuals = p.actuals ∙ q.actuals;
    world = stands_trans a.site a.world b.world c.world p.world (subst (λ s. StandsIn r place s b.world c.world) (sym p.site) q.world);
  }

  pub same_calls_trans : (as_ bs cs : List Call) → SameCalls r place as_ bs → SameCalls r place bs cs → SameCalls r place as_ cs
  same_calls_trans [] [] [] p q = tt
  same_calls_trans (a ∷ as_) (b ∷ bs) (c ∷ cs) p q = (same_call_trans a b c p.0 q.0, same_calls_trans as_ bs cs p.1 q.1)
  same_calls_trans [] [] (c ∷ cs) p q = absurd q
  same_calls_trans [] (b ∷ bs) cs p q = absurd p
  same_calls_trans (a ∷ as_) [] cs p q = absurd p
  same_calls_trans (a ∷ as_) (b ∷ bs) [] p q = absurd q

  pub same_calls_self : (cs : List Call) → SameCalls r place cs cs
  same_calls_self [] = tt
  same_calls_self (c ∷ cs) = (record { site = refl; actuals = refl; world = stands_itself c.site c.world }, same_calls_self cs)

  pub stand_ins : (P Q : Call → Type 0) → ((c d : Call) → P c → SameCall r place c d → Q d) → (cs ds : List Call) → Each P cs → SameCalls r place cs ds → Each Q ds
  stand_ins P Q f [] [] p s = tt
  stand_ins P Q f (c ∷ cs) (d ∷ ds) p s = (f c d p.0 s.0, stand_ins P Q f cs ds p.1 s.1)
  stand_ins P Q f [] (d ∷ ds) p s = absurd s
  stand_ins P Q f (c ∷ cs) [] p s = absurd s

  -- a call's row is the row of each call that stands in for it
  pub respects_too : (h : Handler) (c d : Call) → Respects r place h c → SameCall r place c d → Respects r place h d
  respects_too h c d p e = record {
    row = p.row;
    bound = subst (λ s. IsBound (IsChanged r place s) p.row) e.site p.bound;
    same = λ v q. subst (λ s. IsRow p.row v (h s d.actuals v)) e.site (subst (λ ds. IsRow p.row v (h c.site ds v)) e.actuals (p.same v (stands_trans c.site c.world d.world v e.world (subst (λ s. StandsIn r place s d.world v) (sym e.site) q))));
  }
