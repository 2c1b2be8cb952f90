-- The bytes of a section whose fields are filled, field by field.
use Rattle.std.proofs.Common.{◌≡◌, ℕ, ◌+◌, ◌<◌, ◌≤◌, List, [], ◌∷◌, length, Option, None, sym, ◌∙◌, ap, subst, arith}
use Rattle.std.specs.{List.{AllByRecursion}, Option.{option_map}}
use Rattle.std.proofs.lemmas.{List.{ext_get_or}, Option.{none-some}}
use Rattle.oc_linking.specs.{declared.terms.Patch.{Patch}, Fits.{bytes_of}, Images.{overlay}, Shows.{Apart}}
use Rattle.oc_linking.proofs.{Overlay.{length-overlay}, Storing.{others_stay}}
use Rattle.oc_chains.specs.{declared.field.Field.{Field}, Fields.{end_of, FollowFrom}}
use Rattle.oc_neutral.specs.{declared.reloc.Reloc.{Reloc}, Building.{written}, Constants.{IsWide}, Objects.{reloc_among}}
use Rattle.oc_neutral.proofs.{Mapped.{from_mapped}, SortedFields.{found_first, other_first, none_before}, Standing.{ends_by}}
use Rattle.oc_link.proofs.PatchedBytes.{patch_written}

module _ (value : ℕ → Reloc → ℕ) where
  -- a field with the value of its relocation
  abbrev pub patch : ℕ → Reloc → Patch
  patch at r = record { width = r.form.width; check = r.form.check; residue = value at r }

  -- fields with the values of their relocations
  abbrev pub filled : List (Field Reloc) → ℕ → Option Patch
  filled fields at = option_map (patch at) (reloc_among fields at)

  -- no field begins within another
  filled_apart : (p : ℕ) (fields : List (Field Reloc)) → FollowFrom p fields → AllByRecursion IsWide fields → Apart (filled fields)
  filled_apart p fields follow wide i j q r here there l =
      let a = from_mapped (patch i) (reloc_among fields i) q here in
      let b = from_mapped (patch j) (reloc_among fields j) r there in
      subst (λ (z : Patch). i + bytes_of z.width ≤ j) a.2 (ends_by p fields follow wide i j a.0 b.0 a.1 b.1 l)

  -- none begins before the fields
  none_early : (p : ℕ) (fields : List (Field Reloc)) (at : ℕ) → FollowFrom p fields → at < p → filled fields at ≡ None
  none_early p fields at follow l = ap (option_map (patch at)) (none_before p fields at follow l)

  -- bytes without fields stay
  pub none_filled : (bytes : List ℕ) → overlay (filled []) 0 bytes ≡ bytes
  none_filled bytes =
      ext_get_or 0 (overlay (filled []) 0 bytes) bytes (length-overlay (filled []) 0 bytes)
      (λ i l. others_stay (filled []) bytes i (subst (λ m. i < m) (length-overlay (filled []) 0 bytes) l) (λ at q here a b. none-some q here))

  -- a value that is written is done
  pub write_step : (x : Field Reloc) (rest : List (Field Reloc)) → 1 ≤ x.width → FollowFrom (end_of x) rest → x.width ≡ bytes_of x.item.form.width → AllByRecursion IsWide rest → (bytes : List ℕ)
      → end_of x ≤ length bytes → overlay (filled (x ∷ rest)) 0 bytes ≡ overlay (filled rest) 0 (written x.width (value x.at x.item) x.at bytes)
  write_step x rest thick follow wide more bytes inside =
      patch_written (filled (x ∷ rest)) (filled rest) x.at (patch x.at x.item) (ap (option_map (patch x.at)) (found_first x rest))
      (λ i other. ap (option_map (patch i)) (other_first x rest i other)) (λ i l. none_early (end_of x) rest i follow (omega (arith, l, wide)))
      (filled_apart x.at (x ∷ rest) (omega arith, thick, follow) (wide, more)) bytes (omega (arith, inside, wide))
      ∙ ap (λ w. overlay (filled rest) 0 (written w (value x.at x.item) x.at bytes)) (sym wide)
