-- What is seen of a fitted object that was written is an object, and looks like the one that was written.
use Rattle.std.proofs.Common.{◌≡◌, ℕ, zero, suc, ◌+◌, ◌≤◌, cond, List, [], ◌∷◌, length, Some, None, refl, sym, ap, subst, arith}
use Rattle.std.specs.{Prelude.{slice_get}, Option.{option_map_or}}
use Rattle.std.proofs.lemmas.{Option.{none-some, same_Some}, List.Sums.{sum_by-cons}}
use Rattle.oc_base.specs.{declared.format.Format.{Format}, declared.format.Format.TheVariants.{Mac32, Mac64}, declared.format.Word.TheVariants.{W32, W64}}
use Rattle.oc_base.specs.Formats.{word_for}
use Rattle.oc_neutral.specs.{Objects.{Object}, Family.{Container, IsElf, IsCoff, IsMach, IsOmf}, Families.{container_of}, Invariants.{IsObject}}
use Rattle.oc_target.specs.{Fitted.{IsFitted}, TargetLaws.{SeenIsObject, SeenLooksAlike}}
use Rattle.oc_shows.specs.{Written.{LooksAlike}, SymbolLines.{Line}, Manners.{Manner, mach_manner, omf_manner, manner_of, own_manner}}
use Rattle.oc_shows.specs.Seen.{shown_from, seen_with}
use Rattle.oc_neutral.proofs.Formats.{of_mach, of_omf}
use Rattle.oc_target.proofs.{MeetsElf.{meets_elf}, MeetsCoff.{meets_coff}, MeetsMach.{meets_mach}, MeetsOmf.{meets_omf}, MeetsRelocs.{normal_of}}
use Rattle.oc_target.proofs.{SeenMoved.{seen_alike}, SeenObject.{seen_is_object}, SeenReady.{IsReady, elf_ready, coff_ready, mach_ready, omf_ready}}
use Rattle.oc_shows.proofs.{SeenLines.{IsShown, table_shows}, SeenTables.{is_shown, shown_count, entry_count}}

-- as many are shown as lines show
shown_long : (number : ℕ) (lines : List Line) → length (shown_from number lines) ≡ shown_count lines
shown_long number [] = refl
shown_long number (l ∷ lines) =
    let later : length (shown_from (number + l.entries) lines) ≡ shown_count lines = shown_long (number + l.entries) lines in
    let all : shown_count (l ∷ lines) ≡ cond (is_shown l.shows) 1 0 + shown_count lines = sum_by-cons (λ (x : Line). cond (is_shown x.shows) 1 0) l lines in
    elim l.shows as (λ o. shown_count (l ∷ lines) ≡ cond (is_shown o) 1 0 + shown_count lines
    → length (option_map_or (λ k. (k, number) ∷ shown_from (number + l.entries) lines) o (shown_from (number + l.entries) lines)) ≡ shown_count (l ∷ lines)) [
      | None ↦ λ all. omega (arith, later, all)
      | Some k ↦ λ all. omega (arith, later, all)
    ] all

-- no number is larger than that of all entries
shown_below : (number : ℕ) (lines : List Line) (i : ℕ) (x : ℕ × ℕ) → slice_get (shown_from number lines) i ≡ Some x → x.1 ≤ number + entry_count lines
shown_below number [] i x here = absurd (none-some x here)
shown_below number (l ∷ lines) i x here =
    let all : entry_count (l ∷ lines) ≡ l.entries + entry_count lines = sum_by-cons (λ (y : Line). y.entries) l lines in
    let later : (j : ℕ) → slice_get (shown_from (number + l.entries) lines) j ≡ Some x → x.1 ≤ number + entry_count (l ∷ lines)
    = λ j h. let le = shown_below (number + l.entries) lines j x h in omega (arith, le, all) in
    elim l.shows as (λ o. slice_get (option_map_or (λ k. (k, number) ∷ shown_from (number + l.entries) lines) o (shown_from (number + l.entries) lines)) i ≡ Some x → x.1 ≤ number + entry_count (l ∷ lines)) [
      | None ↦ later i
      | Some k ↦ elim i as (λ i. slice_get ((k, number) ∷ shown_from (number + l.entries) lines) i ≡ Some x → x.1 ≤ number + entry_count (l ∷ lines)) [
        | zero ↦ λ h. let own = ap (λ (y : ℕ × ℕ). y.1) (same_Some (k, number) x h) in omega (arith, own)
        | suc j ↦ later j
      ]
    ] here

module _ (m : Manner) (n : Object) (ready : IsReady m n) where
  abbrev shown : List (ℕ × ℕ)
  shown = shown_from 0 (m.lines n)

  are_shown : IsShown n shown
  are_shown = table_shows n (m.lines n) ready.table

  pub again_is_object : IsObject (seen_with m n shown)
  again_is_object =
      seen_is_object m n shown ready.fine are_shown ready.calls (λ s at r k here own. let y = ready.targets s at r k here own in (y.0, y.1, y.2)) ready.kinds ready.sizes ready.headers
      (λ i x here. let le = shown_below 0 (m.lines n) i x here in let l = ready.entries in omega (arith, le, l))
      (let e = shown_long 0 (m.lines n) in let l = ready.count in omega (arith, e, l))

  pub again_alike : LooksAlike (seen_with m n shown) n
  again_alike = seen_alike m n shown are_shown ready.names ready.kinds (λ s at r here. (normal_of n ready.fine s at r here).reduced) ready.targets ready.sectional ready.fine.built.distinct

-- a fitted object is ready, in the manner of its format
of_format : (target : Format) (n : Object) → IsFitted target n → IsReady (manner_of (container_of target) (word_for target)) n
of_format target n fits = by (container_of target) refl
  where
    by : (c : Container) → container_of target ≡ c → IsReady (manner_of c (word_for target)) n
    by IsElf e = elf_ready target n fits.object (meets_elf target n e fits)
    by IsCoff e = coff_ready target n fits.object (meets_coff target n e fits)
    by IsMach e = of_mach (λ f. IsFitted f n → IsReady (mach_manner (word_for f)) n)
        (λ fitted. mach_ready Mac32 W32 n fitted.object (meets_mach Mac32 n refl fitted) (λ same. (refl, (refl, (refl, (refl, tt))))))
        (λ fitted. mach_ready Mac64 W64 n fitted.object (meets_mach Mac64 n refl fitted) (λ same. absurd (cc)))
        target e fits
    by IsOmf e = of_omf (λ f. IsFitted f n → IsReady omf_manner n) (λ fitted. omf_ready n fitted.object (meets_omf n fitted)) target e fits

own_ready : (target : Format) (n : Object) → IsFitted target n → IsReady (own_manner n) n
own_ready target n fits = subst (λ f. IsReady (manner_of (container_of f) (word_for f)) n) (sym fits.format) (of_format target n fits)

pub seen_is_object_law : SeenIsObject
seen_is_object_law target n fits = again_is_object (own_manner n) n (own_ready target n fits)

pub seen_looks_alike_law : SeenLooksAlike
seen_looks_alike_law target n fits = again_alike (own_manner n) n (own_ready target n fits)
