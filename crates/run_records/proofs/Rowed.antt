-- A call oracle keeps to the record at every call.
use Rattle.std.proofs.Common.{◌≡◌, List, [], ◌∷◌, refl, sym, ap, ◌∙◌, subst, ⊎_elim}
use Rattle.run_model.specs.Storage.{Loc}
use Rattle.run_model.specs.Acts.{World, Handler}
use Rattle.run_calls.specs.Calls.{Call, Each}
use Rattle.run_records.specs.Records.{Association, Record, IsChanged, StandsIn}
use Rattle.run_records.specs.Rows.{IsRow, IsBound, Respects}
use Rattle.run_records.specs.Oracles.{Reply, Gives, Finishes, Forever, IsUndefined, Line, Fits, IsFirst, row_of, IsOracle, ReplyBound, LinesBound}
use Rattle.run_records.specs.Laws.{GivesRows}

module _ (r : Record) (place : Association) where
  -- which line fits is the same for a call and for what stands in
  fits_on : (x : Line) (c : Call) (v : World) → StandsIn r place c.site c.world v → Fits r place x c → Fits r place x (record c { world = v })
  fits_on x c v p f = record { site = f.site; actuals = f.actuals; input = f.input ∙ p.input; cells = λ l read. f.cells l read ∙ p.cells l read }

  fits_back : (x : Line) (c : Call) (v : World) → StandsIn r place c.site c.world v → Fits r place x (record c { world = v }) → Fits r place x c
  fits_back x c v p f = record { site = f.site; actuals = f.actuals; input = f.input ∙ sym p.input; cells = λ l read. f.cells l read ∙ sym (p.cells l read) }

  first_same : (lines : List Line) (c : Call) (v : World) (a b : Reply) → StandsIn r place c.site c.world v → IsFirst r place lines c a → IsFirst r place lines (record c { world = v }) b → b ≡ a
  first_same [] c v a b p fa fb = fb ∙ sym fa
  first_same (x ∷ xs) c v a b p fa fb =
      ⊎_elim
      (λ ya. ⊎_elim (λ yb. yb.1 ∙ sym ya.1) (λ nb. absurd (nb.0 (fits_on x c v p ya.0))) fb)
      (λ na. ⊎_elim (λ yb. absurd (na.0 (fits_back x c v p yb.0))) (λ nb. first_same xs c v a b p na.1 nb.1) fb)
      fa

  reply_bound : (P : Loc → Type 0) (a : Reply) (w : World) → ReplyBound P a → IsBound P (row_of a w)
  reply_bound P (Gives a ch printed input) w m = m
  reply_bound P (Finishes k printed) w m = tt
  reply_bound P (Forever printed) w m = tt
  reply_bound P (IsUndefined c printed) w m = tt

  first_bound : (lines : List Line) (c : Call) (a : Reply) → LinesBound r place lines → IsFirst r place lines c a → IsBound (IsChanged r place c.site) (row_of a c.world)
  first_bound [] c a m f = subst (λ a. IsBound (IsChanged r place c.site) (row_of a c.world)) (sym f) tt
  first_bound (x ∷ xs) c a m f =
      ⊎_elim
      (λ y. subst (λ a. IsBound (IsChanged r place c.site) (row_of a c.world)) (sym y.1) (subst (λ s. IsBound (IsChanged r place s) (row_of x.reply c.world)) y.0.site (reply_bound (IsChanged r place x.site) x.reply c.world m.0)))
      (λ n. first_bound xs c a m.1 n.1)
      f

  -- the row of a reply looks at the input and the steps alone, which what stands in has too
  same_row : (a : Reply) (w v : World) → w.input ≡ v.input → w.left ≡ v.left → row_of a v ≡ row_of a w
  same_row (Gives a ch printed input) w v i n = ap (λ left. row_of (Gives a ch printed input) (record v { left = left })) (sym n)
  same_row (Finishes k printed) w v i n = ap (λ left. row_of (Finishes k printed) (record v { left = left })) (sym n) ∙ ap (λ input. row_of (Finishes k printed) (record w { input = input })) (sym i)
  same_row (Forever printed) w v i n = ap (λ left. row_of (Forever printed) (record v { left = left })) (sym n) ∙ ap (λ input. row_of (Forever printed) (record w { input = input })) (sym i)
  same_row (IsUndefined c printed) w v i n = refl

  oracle_respects : (lines : List Line) (h : Handler) → LinesBound r place lines → IsOracle r place lines h → (c : Call) → Respects r place h c
  oracle_respects lines h m o c = record {
    row = row_of (o c).0 c.world;
    bound = first_bound lines c (o c).0 m (o c).1;
    same = λ v p. like v p (o (record c { world = v }));
  }
    where
      like : (v : World) → StandsIn r place c.site c.world v → ((a : Reply) × IsFirst r place lines (record c { world = v }) a × IsRow (row_of a v) v (h c.site c.actuals v)) → IsRow (row_of (o c).0 c.world) v (h c.site c.actuals v)
      like v p b = subst (λ row. IsRow row v (h c.site c.actuals v)) (same_row (o c).0 c.world v p.input p.left) (subst (λ a. IsRow (row_of a v) v (h c.site c.actuals v)) (first_same lines c v (o c).0 b.0 p (o c).1 b.1) b.2)

  each_respects : (lines : List Line) (h : Handler) → LinesBound r place lines → IsOracle r place lines h → (cs : List Call) → Each (Respects r place h) cs
  each_respects lines h m o [] = tt
  each_respects lines h m o (c ∷ cs) = (oracle_respects lines h m o c, each_respects lines h m o cs)

pub gives_rows : GivesRows
gives_rows associate r a b s lines h ds w m o en = record {
  run = s.same_run h ds w en (each_respects r (associate ds) lines h m o (a.calls h ds w));
  calls = s.same_calls h ds w en (each_respects r (associate ds) lines h m o (a.calls h ds w));
}
