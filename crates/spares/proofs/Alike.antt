-- Two tables with the same pairs that count are alike: both are good or neither is, the same tracks are free, and they serve alike.
-- Each of these looks at a table in the places of the pairs that count, and there the two hold the same.
use Rattle.spares.specs.declared.Track.{Track}
use Rattle.std.proofs.Common.{None, Option}
use Prim.Native.Nat.{ℕ, ◌*◌, ◌<◌, min}
use mathlib.Core.List.{List}
use mathlib.Core.Logic.{ite}
use mathlib.Core.Path.{◌≡◌, sym, ap, subst, ◌∙◌}
use native.Mathlib.Decide.{dec_lt}
use native.Mathlib.Nat.{min-eq_left}
use native.Mathlib.Omega.{arith}
use lib.ListN.{get_or, length}
use lib.Seq.{get_or-take}
use Rattle.geometry.specs.declared.Geometry.{Geometry}
use Rattle.spares.specs.Lands.{InTable, counted}
use Rattle.spares.specs.Table.{Free, Good, served_at}
use Rattle.spares.specs.Tracks.{TrackOn, track_number}
use Rattle.spares.proofs.Adding.{serve_alike}

module _ (n : ℕ) (ts us : List ℕ) (same : counted n ts ≡ counted n us) where
  pub entry_alike : (i : ℕ) → i < 2 * min n 32 → get_or ts i 0 ≡ get_or us i 0
  entry_alike i less =
      sym (get_or-take (2 * min n 32) ts i 0 less) ∙ ap (λ (l : List ℕ). get_or l i 0) same ∙ get_or-take (2 * min n 32) us i 0 less

  pub good_alike : (g : Geometry) → length us ≡ 64 → Good g n ts → Good g n us
  good_alike g long good =
      let all : min n 32 ≡ n = min-eq_left good.room in
      let alike : (i : ℕ) → i < 2 * n → get_or ts i 0 ≡ get_or us i 0 = λ i less. entry_alike i (omega arith) in
      record {
        long = long;
        room = good.room;
        on = λ i less. subst (TrackOn g) (alike i less) (good.on i less);
        once = λ i j less j-in is. good.once i j less j-in (alike i (omega arith) ∙ is ∙ sym (alike j j-in));
      }

  in_table_alike : (t : ℕ) → InTable n us t → InTable n ts t
  in_table_alike t there =
      record { at = there.at; less = there.less; here = entry_alike there.at there.less ∙ there.here }

  pub free_alike : (b s : ℕ) → Free n ts b s → Free n us b s
  free_alike b s free =
      record {
        differ = free.differ;
        bad_new = λ there. free.bad_new (in_table_alike b there);
        spare_new = λ there. free.spare_new (in_table_alike s there);
      }

  pub served_alike : (g : Geometry) (c h : ℕ) → served_at g n ts c h ≡ served_at g n us c h
  served_alike g c h =
      ap (λ (s : Option Track). ite (dec_lt h 256) s None)
      (serve_alike g (track_number c h) ts us 0 (min n 32) (λ j less. entry_alike j (omega arith)))
