-- What serves under a wide record serves under a narrower one.
use Rattle.std.proofs.Common.{◌≡◌, ℕ, List, [], ◌∷◌, refl, inl, inr, ⊎_elim, subst}
use Rattle.std.proofs.Math.Path.{fun_ext}
use Rattle.run_model.specs.Storage.{Loc}
use Rattle.run_model.specs.Acts.{World, Handler}
use Rattle.run_calls.specs.Calls.{Call, Each}
use Rattle.run_calls.proofs.Ends.{if_map}
use Rattle.run_records.specs.Records.{Association, Record, IsChanged, IsReadThrough, StandsIn, IsEntry}
use Rattle.run_records.specs.Rows.{Row, Results, Ends, GoesOn, Fails, IsRow, IsBound, Respects}
use Rattle.run_records.specs.Serving.{SameCalls}
use Rattle.run_records.specs.Widest.{AsWide, widest}
use Rattle.run_records.specs.Laws.{WidestIsKept, Narrows, WidestAllowsAll, WidestServesAll}

bound_map : (P Q : Loc → Type 0) → ((l : Loc) → P l → Q l) → (row : Row) → IsBound P row → IsBound Q row
bound_map P Q f (Results r ch printed input left) b = λ l c e. f l (b l c e)
bound_map P Q f (Ends k printed input left) b = tt
bound_map P Q f (GoesOn printed input left) b = tt
bound_map P Q f (Fails c printed) b = tt

module _ (r s : Record) (wide : AsWide r s) (place : Association) where
  read_on : (site : ℕ) (l : Loc) → IsReadThrough r place site l → IsReadThrough s place site l
  read_on site l read = λ x own. wide.refs site x (read x own)

  -- what stands in by the wider record stands in by the narrower one
  stands_back : (site : ℕ) (w v : World) → StandsIn s place site w v → StandsIn r place site w v
  stands_back site w v p = record { out = p.out; input = p.input; left = p.left; cells = λ l read. p.cells l (read_on site l read) }

  respects_on : (h : Handler) (c : Call) → Respects r place h c → Respects s place h c
  respects_on h c p = record {
    row = p.row;
    bound = bound_map (IsChanged r place c.site) (IsChanged s place c.site) (λ l ch x own. wide.mods c.site x (ch x own)) p.row p.bound;
    same = λ v q. p.same v (stands_back c.site c.world v q);
  }

  each_on : (h : Handler) (cs : List Call) → Each (Respects r place h) cs → Each (Respects s place h) cs
  each_on h [] e = tt
  each_on h (c ∷ cs) e = (respects_on h c e.0, each_on h cs e.1)

  calls_back : (cs ds : List Call) → SameCalls s place cs ds → SameCalls r place cs ds
  calls_back [] [] p = tt
  calls_back (c ∷ cs) (d ∷ ds) p = (record { site = p.0.site; actuals = p.0.actuals; world = stands_back c.site c.world d.world p.0.world }, calls_back cs ds p.1)
  calls_back [] (d ∷ ds) p = absurd p
  calls_back (c ∷ cs) [] p = absurd p

  entry_on : (w : World) → IsEntry r place w → IsEntry s place w
  entry_on w en = record {
    associated = en.associated;
    apart = λ x y l own other. ⊎_elim (λ e. inl e) (λ e. inr (wide.pairs x y e)) (en.apart x y l own other);
    constants = λ x c e. en.constants x c (wide.constants x c e);
  }

pub narrows : Narrows
narrows associate r s a b wide p = record {
  same_run = λ h ds w en re. p.same_run h ds w (entry_on r s wide (associate ds) w en) (each_on r s wide (associate ds) h (a.calls h ds w) re);
  same_calls = λ h ds w en re. if_map (a.run h ds w) _ _ (calls_back r s wide (associate ds) (a.calls h ds w) (b.calls h ds w)) (p.same_calls h ds w (entry_on r s wide (associate ds) w en) (each_on r s wide (associate ds) h (a.calls h ds w) re));
}

pub widest_allows : WidestAllowsAll
widest_allows = record { read = λ place s l x own. refl; changed = λ place s l x own. refl }

pub widest_serves : WidestServesAll
widest_serves associate r a b pairs p =
    narrows associate r widest a b (record { mods = λ site x e. refl; refs = λ site x e. refl; pairs = pairs; constants = λ x c e. absurd (cc) }) p

pub widest_is_kept : WidestIsKept
widest_is_kept place h c row is = record {
  row = row;
  bound = all_bound row;
  same = λ v p. subst (λ v. IsRow row v (h c.site c.actuals v)) (same_world v p) is;
}
  where
    all_bound : (row : Row) → IsBound (IsChanged widest place c.site) row
    all_bound (Results r ch printed input left) = λ l d e x own. refl
    all_bound (Ends k printed input left) = tt
    all_bound (GoesOn printed input left) = tt
    all_bound (Fails k printed) = tt

    same_world : (v : World) → StandsIn widest place c.site c.world v → c.world ≡ v
    same_world v p = λ i. record { cells = fun_ext (λ l. p.cells l (λ x own. refl)) i; out = p.out i; input = p.input i; left = p.left i }
