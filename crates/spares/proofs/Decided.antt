-- Whether a table is good, and whether two tracks can become a pair in it, is decided, so that definitions elsewhere can go by cases on it.
-- Each is said of the places below a bound, and at each place it is decided.
use Prim.Native.Nat.{ℕ, ◌*◌, min}
use mathlib.Core.List.{List}
use mathlib.Core.Logic.Dec
use native.Mathlib.Decide.{dec_le, map_dec, ℕ_discrete}
use lib.ListN.{get_or, length}
use Rattle.geometry.specs.declared.Geometry.{Geometry}
use Rattle.wire.proofs.Decided.{all?}
use Rattle.spares.specs.Lands.{InTable}
use Rattle.spares.specs.Table.{Free, Good}
use Rattle.spares.specs.Tracks.{track_on?}

pub good? : (g : Geometry) (n : ℕ) (ts : List ℕ) → Dec (Good g n ts)
good? g n ts =
    map_dec (λ d. record { long = d.0; room = d.1.0; on = d.1.1.0; once = λ i j less j-in. d.1.1.1 j j-in i less })
    (λ good. (good.long, (good.room, (good.on, λ j j-in i less. good.once i j less j-in))))
    (Dec.and (ℕ_discrete (length ts) 64)
    (Dec.and (dec_le n 32)
    (Dec.and (all? _ (λ i. track_on? g (get_or ts i 0)) (2 * n))
    (all? _ (λ j. all? _ (λ i. Dec.not (ℕ_discrete (get_or ts i 0) (get_or ts j 0))) j) (2 * n)))))

new? : (n : ℕ) (ts : List ℕ) (t : ℕ) → Dec (InTable n ts t → ⊥)
new? n ts t =
    map_dec (λ none there. none there.at there.less there.here) (λ out i less is. out (record { at = i; less = less; here = is }))
    (all? _ (λ i. Dec.not (ℕ_discrete (get_or ts i 0) t)) (2 * min n 32))

pub free? : (n : ℕ) (ts : List ℕ) (bad spare : ℕ) → Dec (Free n ts bad spare)
free? n ts bad spare =
    map_dec (λ d. record { differ = d.0; bad_new = d.1.0; spare_new = d.1.1 }) (λ f. (f.differ, (f.bad_new, f.spare_new)))
    (Dec.and (Dec.not (ℕ_discrete bad spare)) (Dec.and (new? n ts bad) (new? n ts spare)))
