-- A file that was made for an object shows the object that is seen.
use Rattle.std.proofs.Common.{◌≡◌, ℕ, zero, suc, ◌+◌, ◌<◌, ◌⊎◌, inl, inr, Bool, true, false, cond, ℤ, List, [], ◌∷◌, length, map, replicate, get_or, Option, Some, None, refl, sym, ◌∙◌, ap, subst, arith}
use Rattle.std.specs.{Prelude.{slice_get}, List.{enumerate_from}, Option.{option_map, unwrap_or}}
use Rattle.std.proofs.lemmas.{Bool.{cases_lt, true≢false}, Int.{ints}, List.{length-replicate}, Option.{same_Some}}
use Rattle.oc_base.specs.{declared.format.Format.{Format}, Formats.{word_for}}
use Rattle.oc_linking.specs.{declared.terms.Base.{Base}, declared.terms.Binding.{Binding}}
use Rattle.oc_linking.specs.{declared.terms.Binding.TheVariants.{Local, Global, Undefined, Common, Weak}, declared.terms.Patch.{Patch}, Fits.{bytes_of}}
use Rattle.oc_linking.specs.{Images.{overlay}, Keeping.{all, keeps}, Parts.{is_local}, Rules.{Symbolic}, Targets.{named_by}}
use Rattle.oc_linking.specs.declared.terms.Base.TheVariants as base
use Rattle.oc_linking.specs.Parts as parts
use Rattle.oc_linking.specs.Targets as file
use Rattle.oc_linking.proofs.{Overlay.{length-overlay}, Storing.{others_stay}, Whole.{keeps-all}}
use Rattle.oc_neutral.specs.{declared.section.Section.{Section}, declared.symbol.Symbol.{Symbol}, declared.reloc.Reloc.{Reloc}, declared.reloc.Target.{Target}}
use Rattle.oc_neutral.specs.{Objects.{Object, reloc_at}, Building.{is_zero}, Dialects.{Dialect, kept_fields}}
use Rattle.oc_neutral.specs.{Faces.{shown_binding, shown_section, shown_symbol, shown_symbols, frame_of}, Families.{container_of}}
use Rattle.oc_neutral.specs.{Family.{Container, IsElf, IsCoff, IsMach, IsOmf}, Invariants.{HasItsBytes, IsObject, IsThere}}
use Rattle.oc_neutral.specs.{Normal.{Place, at_section, moved_addend}, Rows.{Row}}
use Rattle.oc_neutral.specs.declared.reloc.Target.TheVariants as target
use Rattle.oc_shows.specs.{Again.{IsCovered, HasContents, IsReadAgain}, Built.{IsField, IsFree, IsGiven}, Manners.{Manner, manner_of, own_manner}}
use Rattle.oc_shows.specs.{Readable.{AreZeros}, RowFields.{IsTarget, place_target, row_field}, RowValues.{row_reloc}}
use Rattle.oc_shows.specs.Seen.{new_position, section_place, seen, seen_binding, seen_reloc, seen_section, seen_symbol, seen_symbols, seen_target}
use Rattle.oc_shows.specs.{Shows.{AreNumbered, Shows}, SymbolLines.{omf_lines}}
use Rattle.oc_target.specs.Fitted.{IsFitted}
use Rattle.oc_shows.proofs.{AgainLaws.{inside_of, read_again_shows}, RowFieldLaws.{rows_are_fields, section_rows_are_fields, symbol_is_target}}
use Rattle.oc_shows.proofs.{SeenAlike.{relocs_same, numbers_differ}, SeenFamilies.{elf_table, coff_table, mach_table}}
use Rattle.oc_shows.proofs.{SeenLines.{IsShown, IsTable, table_shows}, BuiltContents.{zeros_at}}
use Rattle.oc_neutral.proofs.{Mapped.{from_mapped}, Formats.{of_omf}, Positions.{there_at}}
use Rattle.oc_target.proofs.{MeetsOmf.{meets_omf}, SeenLaws.{seen_is_object_law}, SeenReady.{omf_ready}}
use Rattle.oc_shelf.proofs.WritingLaws.MemberLemmas.{map-alike, map-map, member_map, of_map, of_enumerated}
use Rattle.oc_made_files.specs.MadeFiles.{shown_in, seen_in, IsMadeField, IsMadeFile, MadeFileShows}

flags_kept : (xs : List parts.Section) (k : ℕ) → unwrap_or (slice_get (map (λ (s : parts.Section). keeps all s.kind) xs) k) true ≡ true
flags_kept [] k = refl
flags_kept (x ∷ xs) zero = keeps-all x.kind
flags_kept (x ∷ xs) (suc k) = flags_kept xs k

-- so each field that is read is kept
pub field_kept : (g : Dialect) (c : List ℕ) (k at : ℕ) → kept_fields g c all k at ≡ g.rules.fields c all k at
field_kept g c k at = ap (λ b. cond b (g.rules.fields c all k at) None) (flags_kept (g.rules.sections c) k)

all_zero : (xs : List ℕ) → AreZeros xs → (i : ℕ) → get_or xs i 0 ≡ 0
all_zero [] zeros i = refl
all_zero (x ∷ xs) zeros zero = zeros.0
all_zero (x ∷ xs) zeros (suc i) = all_zero xs zeros.1 i

-- no bytes are zeros
none_zero : (xs : List ℕ) → length xs ≡ 0 → AreZeros xs
none_zero [] e = tt
none_zero (x ∷ xs) e = absurd (omega (arith, e))

of_numbered : {X Y : Type 0} (f : ℕ × X → Y) (xs : List X) (k : ℕ) (y : Y) → slice_get (map f (enumerate_from 0 xs)) k ≡ Some y → (x : X) × (slice_get xs k ≡ Some x) × (f (k, x) ≡ y)
of_numbered f xs k y here =
    let z = of_map f (enumerate_from 0 xs) k y here in
    let x = of_enumerated 0 xs k z.0 z.1 in
    let e : 0 + k ≡ k = omega arith in
    (z.0.1, x.1, ap (λ i. f (i, z.0.1)) (sym (x.0 ∙ e)) ∙ z.2)

-- the file's target for the symbol of a number
abbrev pub numbered_target : ℕ → file.Target
numbered_target number = record { named = Symbolic number; worth = λ p v. v number }

-- an offset 0 adds nothing
no_offset : (b : Base) (a : ℤ) → moved_addend b a 0 ≡ a
no_offset base.Address a = omega (arith, ints)
no_offset base.Slot a = refl
no_offset base.GotBase a = refl
no_offset base.HomeNumber a = refl

module _ (m : Manner) (n : Object) where
  abbrev shown : List (ℕ × ℕ)
  shown = shown_in m n

  abbrev again : Object
  again = seen_in m n

  -- the object that is seen, where that is its manner
  pub again_is : own_manner n ≡ m → seen n ≡ again
  again_is own = ap (λ (m : Manner). seen_in m n) own

  -- a symbol that is not Local is named by its number
  pub named_by_symbol : (number : ℕ) (b : Binding) → is_local b ≡ false → named_by number (shown_binding (seen_symbols m n shown) (seen_binding m n shown b)) ≡ Some (Symbolic number)
  named_by_symbol number (Local v) e = absurd (true≢false e)
  named_by_symbol number (Global v) e = refl
  named_by_symbol number Undefined e = refl
  named_by_symbol number (Common size align) e = refl
  named_by_symbol number (Weak f) e = refl

  width_kept : (r : Reloc) → (seen_reloc m n shown r).form.width ≡ r.form.width
  width_kept r = by (section_place m n r)
    where
      by : (o : Option Place) → (at_section (word_for n.format) r o).form.width ≡ r.form.width
      by None = refl
      by (Some place) = refl

  -- ... relocations and contents, where those are the symbols that are shown
  module _ (are : IsShown n shown) where
    relocs_seen : (k at : ℕ) (o : Option Reloc) → reloc_at n k at ≡ o → reloc_at again k at ≡ option_map (seen_reloc m n shown) o
    relocs_seen k at o here = relocs_same m n shown are n.relocs k at ∙ ap (option_map (seen_reloc m n shown)) here

    -- bytes beside the fields that are written over them
    abbrev patched : (ℕ → Reloc → Patch) → ℕ → List ℕ → List ℕ
    patched patch k xs = overlay (λ at. option_map (patch at) (reloc_at n k at)) 0 xs

    pub patched_beside : (patch : ℕ → Reloc → Patch) → ((at : ℕ) (r : Reloc) → (patch at r).width ≡ r.form.width) → (k : ℕ) (xs : List ℕ) (i : ℕ)
        → i < length (patched patch k xs) → (IsCovered (reloc_at again) k i → ⊥) → get_or (patched patch k xs) i 0 ≡ get_or xs i 0
    patched_beside patch width k xs i low free =
        let patches : ℕ → Option Patch = λ at. option_map (patch at) (reloc_at n k at) in
        let long = length-overlay patches 0 xs in
        others_stay patches xs i (omega (arith, low, long)) (λ at q there before behind.
        let r = from_mapped (patch at) (reloc_at n k at) q there in
        let wide : bytes_of q.width ≡ bytes_of (seen_reloc m n shown r.0).form.width = ap bytes_of (ap (λ (x : Patch). x.width) (sym r.2) ∙ width at r.0 ∙ sym (width_kept r.0)) in
        free (record { at = at; reloc = seen_reloc m n shown r.0; here = relocs_seen k at (Some r.0) r.1; low = before; high = omega (arith, behind, wide) }))

    -- the contents of a section: where the file has no bytes of it, which then are zeros, as many zeros; and else its bytes, but for its fields
    module _ (k : ℕ) (s : Section) (bytes : HasItsBytes s) (kind : is_zero (m.kind s) ≡ is_zero s.kind) (raw : List ℕ) (long : length raw ≡ length s.bytes)
        (beside : (i : ℕ) → i < length raw → (IsCovered (reloc_at again) k i → ⊥) → get_or raw i 0 ≡ get_or s.bytes i 0) where
      abbrev Own : List ℕ → List ℕ → Type 0
      Own ys zs = (length ys ≡ length zs) × ((i : ℕ) → i < length ys → (IsCovered (reloc_at again) k i → ⊥) → get_or ys i 0 ≡ get_or zs i 0)

      pub contents_by_type : (b : Bool) → (b ≡ true → AreZeros s.bytes) → (b ≡ false → length s.bytes ≡ s.size) → HasContents again k (seen_section m n (k, s)) (cond b (replicate s.size 0) raw)
      contents_by_type b zeros stored =
          let own = by b zeros stored (is_zero (m.kind s)) (bytes ∙ ap (λ c. cond c 0 s.size) (sym kind)) in
          record { long = own.0; beside = own.1 }
        where
          by : (b : Bool) → (b ≡ true → AreZeros s.bytes) → (b ≡ false → length s.bytes ≡ s.size) → (c : Bool) → length s.bytes ≡ cond c 0 s.size
              → Own (cond b (replicate s.size 0) raw) (cond c (replicate s.size 0) s.bytes)
          by true zeros stored true size = (refl, λ i low free. refl)
          by true zeros stored false size = (length-replicate s.size 0 ∙ sym size, λ i low free. zeros_at s.size i ∙ sym (all_zero s.bytes (zeros refl) i))
          by false zeros stored true size = (long ∙ stored refl ∙ sym (length-replicate s.size 0), λ i low free. absurd (omega (arith, low, long, size)))
          by false zeros stored false size = (long, beside)

      pub contents_by_kind : (b : Bool) → b ≡ is_zero s.kind → HasContents again k (seen_section m n (k, s)) (cond b (replicate s.size 0) raw)
      contents_by_kind b own =
          let size : length s.bytes ≡ cond b 0 s.size = bytes ∙ ap (λ c. cond c 0 s.size) (sym own) in
          contents_by_type b (λ e. none_zero s.bytes (size ∙ ap (λ c. cond c 0 s.size) e)) (λ e. size ∙ ap (λ c. cond c 0 s.size) e)

  -- ... fields
  module _ (g : Dialect) (c : List ℕ) where
    -- what a row says as its target: a section of the object, or a target that is one
    abbrev pub IsAimed : Target → file.Target → Type 0
    IsAimed t u = ((j : ℕ) × (target.Section j ≡ t) × (place_target g.rules.word j 0 ≡ u)) ⊎ IsTarget g c all again t u

    -- the symbol that is not Local, by its number
    pub outer_aimed : g.rules.symbols c all ≡ shown_symbols again → (j : ℕ) (t : Symbol) → is_local t.binding ≡ false → (number : ℕ)
        → slice_get (seen_symbols m n shown) (new_position shown j) ≡ Some (seen_symbol m n shown number t) → IsTarget g c all again (target.Symbol (new_position shown j)) (numbered_target number)
    outer_aimed symbols j t outer number there =
        let position : ℕ = new_position shown j in
        let y : Symbol = seen_symbol m n shown number t in
        symbol_is_target g c all again position (shown_symbol again.symbols y) (numbered_target number) (sym symbols)
        (ap (λ ys. slice_get ys position) symbols ∙ member_map (shown_symbol again.symbols) again.symbols position y there)
        (ap (option_map (λ named. record { named = named; worth = λ p v. v number })) (named_by_symbol number t.binding outer))

    -- the target of a relocation, where a file says sections and symbols so
    module _ (says : Target → Option file.Target) (sections : (j : ℕ) (s : Section) → slice_get n.sections j ≡ Some s → says (target.Section j) ≡ Some (place_target g.rules.word j 0))
        (number : ℕ → ℕ) (symbols : (j : ℕ) (t : Symbol) → slice_get n.symbols j ≡ Some t → is_local t.binding ≡ false
        → (says (target.Symbol j) ≡ Some (numbered_target (number j))) × IsTarget g c all again (target.Symbol (new_position shown j)) (numbered_target (number j))) where
      pub target_said : (t : Target) → IsThere n t → ((j : ℕ) (s : Symbol) → t ≡ target.Symbol j → slice_get n.symbols j ≡ Some s → is_local s.binding ≡ false)
          → (u : file.Target) × (says t ≡ Some u) × IsAimed (seen_target shown t) u
      target_said (target.Section j) there outer = let s = there_at n.sections j there in (place_target g.rules.word j 0, sections j s.0 s.1, inl (j, refl, refl))
      target_said (target.Symbol j) there outer =
          let s = there_at n.symbols j there in
          let x = symbols j s.0 s.1 (outer j s.0 refl s.1) in
          (numbered_target (number j), x.0, inr x.1)

    -- the field of a row is the relocation that is the row's
    pub made_by_row : (k at : ℕ) (r : Reloc) (x : Row) (taken : ℕ) (a : ℤ) (t : Target) (u : file.Target) → g.rules.fields c all k at ≡ Some (row_field g.rules.word x taken a k at u)
        → row_reloc g.rules.word x taken a t ≡ seen_reloc m n shown r → IsAimed t u → IsMadeField g m c n k at r
    made_by_row k at r x taken a t u here made aimed = record {
      field = row_field g.rules.word x taken a k at u;
      here = here;
      is = subst (λ q. IsField g c all again k at q (row_field g.rules.word x taken a k at u)) made (elim aimed [
        | inl j ↦
            subst (λ t. IsField g c all again k at (row_reloc g.rules.word x taken a t) (row_field g.rules.word x taken a k at u)) j.1
            (subst (λ u. IsField g c all again k at (row_reloc g.rules.word x taken a (target.Section j.0)) (row_field g.rules.word x taken a k at u)) j.2
            (subst (λ b. IsField g c all again k at (row_reloc g.rules.word x taken b (target.Section j.0)) (row_field g.rules.word x taken a k at (place_target g.rules.word j.0 0))) (no_offset x.base a)
            (section_rows_are_fields g c all again k at x taken a j.0 0)))
        | inr one ↦ rows_are_fields g c all again k at x taken a t u one
      ]);
    }

-- ... all

module _ (g : Dialect) (m : Manner) (c : List ℕ) (n : Object) (made : ℕ × Section → parts.Section) (is : IsMadeFile g m c n made) (format : n.format ≡ g.format) (fine : IsObject n)
    (are : IsShown n (shown_in m n)) where
  abbrev own : Object
  own = seen_in m n

  frames : map frame_of (map (shown_section n.groups) own.sections) ≡ map frame_of (map made (enumerate_from 0 n.sections))
  frames =
      let numbered : List (ℕ × Section) = enumerate_from 0 n.sections in
      ap (map frame_of) (map-map (shown_section n.groups) (seen_section m n) numbered)
      ∙ map-map frame_of (λ x. shown_section n.groups (seen_section m n x)) numbered
      ∙ map-alike (λ x. frame_of (shown_section n.groups (seen_section m n x))) (λ x. frame_of (made x)) numbered (λ k x h.
      let y = of_enumerated 0 n.sections k x h in
      let e : x.0 ≡ k = omega (arith, y.0) in
      is.frames x.0 x.1 (ap (slice_get n.sections) e ∙ y.1))
      ∙ sym (map-map frame_of made numbered)

  contents_are : (k : ℕ) (x : Section) (y : parts.Section) → slice_get own.sections k ≡ Some x → slice_get (g.rules.sections c) k ≡ Some y → HasContents own k x y.contents
  contents_are k x y here there =
      let s = of_numbered (seen_section m n) n.sections k x here in
      let t = of_numbered made n.sections k y (ap (λ ys. slice_get ys k) (sym is.sections) ∙ there) in
      let same : s.0 ≡ t.0 = same_Some s.0 t.0 (sym s.1 ∙ t.1) in
      subst (λ (z : parts.Section). HasContents own k x z.contents) (ap (λ z. made (k, z)) same ∙ t.2)
      (subst (λ (z : Section). HasContents own k z (made (k, s.0)).contents) s.2 (is.contents k s.0 s.1))

  fields_are : (k at : ℕ) → IsFree g c all (reloc_at own) k at ⊎ IsGiven g c all own (reloc_at own) k at
  fields_are k at = by (reloc_at n k at) refl
    where
      none : g.rules.fields c all k at ≡ None → reloc_at n k at ≡ None → IsFree g c all (reloc_at own) k at
      none free e = record { field = field_kept g c k at ∙ free; none = relocs_seen m n are k at None e }

      by : (o : Option Reloc) → reloc_at n k at ≡ o → IsFree g c all (reloc_at own) k at ⊎ IsGiven g c all own (reloc_at own) k at
      by None e = elim (cases_lt k (length n.sections)) [
        | inl low ↦ let s = there_at n.sections k low in inl (none (is.free k s.0 s.1 at e) e)
        | inr high ↦ inl (none (is.past k at (omega (arith, high))) e)
      ]
      by (Some r) e =
          let s = there_at n.sections k (inside_of n fine k at r e) in
          let x = is.given k s.0 s.1 at r e in
          inr (record { field = x.field; reloc = seen_reloc m n (shown_in m n) r; here = field_kept g c k at ∙ x.here; there = relocs_seen m n are k at (Some r) e; is = x.is })

  pub made_read_again : IsReadAgain g c own
  made_read_again = record {
    format = format;
    word = is.word;
    sections = frames ∙ ap (map frame_of) (sym is.sections);
    contents = contents_are;
    symbols = sym is.symbols;
    numbered = subst AreNumbered (sym is.symbols) (numbers_differ m n (shown_in m n) are);
    fields = fields_are;
  }

-- the lines of an object that is ready for a format show its symbols
fitted_shown : (format : Format) (n : Object) → IsFitted format n → IsShown n (shown_in (own_manner n) n)
fitted_shown format n fits =
    subst (λ f. IsShown n (shown_in (manner_of (container_of f) (word_for f)) n)) (sym fits.format) (table_shows n ((manner_of (container_of format) (word_for format)).lines n) (by (container_of format) refl))
  where
    by : (c : Container) → container_of format ≡ c → IsTable n ((manner_of c (word_for format)).lines n)
    by IsElf e = (elf_table n).table
    by IsCoff e = (coff_table n).table
    by IsMach e = (mach_table n (word_for format)).table
    by IsOmf e = of_omf (λ f. IsFitted f n → IsTable n (omf_lines n)) (λ fitted. (omf_ready n fitted.object (meets_omf n fitted)).table) format e fits

pub made_file_shows : MadeFileShows
made_file_shows g m c n made fits is =
    let same : seen n ≡ seen_in m n = again_is m n is.manner in
    let are : IsShown n (shown_in m n) = subst (λ m. IsShown n (shown_in m n)) is.manner (fitted_shown g.format n fits) in
    let fine : IsObject (seen_in m n) = subst IsObject same (seen_is_object_law g.format n fits) in
    subst (Shows g c all) (sym same) (read_again_shows g c (seen_in m n) fine (made_read_again g m c n made is fits.format fits.object are))
