-- An object to which a file's relocations were added is whole and readable, where it was before.
use Rattle.std.proofs.Common.{◌≡◌, ℕ, ◌<◌, ◌≤◌, true, List, [], ◌∷◌, length, get_or, Option, Some, None, Ok, refl, sym, ◌∙◌, ap, subst, arith}
use Rattle.std.specs.{Prelude.{slice_get}, List.{AllByRecursion}, Option.{option_map_or}}
use Rattle.std.proofs.lemmas.{Grind.{same_number_lists}, Option.{none-some, slice_get_within}}
use Rattle.oc_base.specs.{declared.format.Format.{Format}, Formats.{word_for}}
use Rattle.oc_linking.specs.{declared.terms.Value.{Value}, declared.terms.Fallback.{Fallback}, declared.terms.Binding.{Binding}}
use Rattle.oc_linking.specs.{declared.terms.Binding.TheVariants.{Local, Global, Undefined, Common, Weak}, Fits.{bytes_of}}
use Rattle.oc_linking.specs.declared.terms.Value.TheVariants as value
use Rattle.oc_linking.specs.declared.terms.Fallback.TheVariants as fallback
use Rattle.oc_linking.specs.Parts as parts
use Rattle.oc_chains.specs.{declared.field.Field.{Field}, Fields.{field}, Lists.{list_of}}
use Rattle.oc_neutral.specs.{declared.group.Group.{Group}, declared.section.Section.{Section}, declared.symbol.Symbol.{Symbol}, declared.reloc.Target.{Target}}
use Rattle.oc_neutral.specs.{declared.reloc.Reloc.{Reloc}, Objects.{Object}, Normal.{Place, place_among}, Building.{Draft, reloc_added, stored_size}}
use Rattle.oc_neutral.specs.{Faces.{shown_section, frame_of}, GivenTags.{can_have, is_blank_type}}
use Rattle.oc_neutral.specs.Invariants.{CanAdd, HasItsBytes, HasOffset, IsAlign, IsBinding, IsDraft, IsFallback, IsHinted, IsSymbol, IsValue, HaveKeys, AreBegun, NamesOriginal, groups_of}
use Rattle.oc_neutral.specs.declared.normal.Normal.TheVariants as normal
use Rattle.oc_shows.specs.{Readable.{AreZeros}, Built.{AddedReloc, RelocMap, given_by, Makes}, Finished.{BuiltIsComplete, BuiltIsReadable}, Again.{IsCovered}}
use Rattle.oc_neutral.proofs.{Added.{added}, DraftAdded.{IsOne, kept, constant, one}, MoreRelocs.{all_placed, by_list}}
use Rattle.oc_neutral.proofs.{NormalLemmas.{kept_hinted, kept_left, section_for}, Positions.{each_at, images_same, lengths_same, there_at}}
use Rattle.oc_shows.proofs.{Holding.{IsHolding, found-more, still-more, normal-base, holds_all, holds_by}, Showing.{normal_in}}
use Rattle.oc_shelf.proofs.WritingLaws.MemberLemmas.{all_members}

-- what holds of the normal form of each entry holds of each relocation
fields_hold : (P : ℕ → Reloc → Type 0) (base d : Draft) (entries : List AddedReloc) → IsDraft base → ((s : ℕ) → list_of base.object.relocs s ≡ []) → ((s : ℕ) → list_of base.folded s ≡ [])
    → Makes base entries d → ((t x : ℕ) (r q : Reloc) → given_by entries t x ≡ Some r → normal_in base.object t x r ≡ normal.Kept q → P t q)
    → (t : ℕ) → AllByRecursion (λ (x : Field Reloc). P t x.item) (list_of d.object.relocs t)
fields_hold P base d [] draft relocs folded made each = λ t.
    subst (λ (xs : List (Field Reloc)). AllByRecursion (λ (x : Field Reloc). P t x.item) xs) (sym (ap (λ (z : Draft). list_of z.object.relocs t) made ∙ relocs t)) tt
fields_hold P base e (x ∷ entries) draft relocs folded made each =
    let d : Draft = made.0 in
    let has : IsHolding base d (given_by entries) = holds_by base d entries draft relocs folded made.1 in
    by d has made.2.can made.2.added (one d x.section x.at x.reloc e made.2.added)
    (fields_hold P base d entries draft relocs folded made.1 (λ t y r q here. each t y r q (still-more base d (given_by entries) has x.section x.at x.reloc e made.2.can made.2.added t y r here)))
  where
    by : (d : Draft) → IsHolding base d (given_by entries) → CanAdd d.object x.section x.at x.reloc → reloc_added d x.section x.at x.reloc ≡ Ok e → IsOne d x.section x.at x.reloc e
        → ((t : ℕ) → AllByRecursion (λ (y : Field Reloc). P t y.item) (list_of d.object.relocs t)) → (t : ℕ) → AllByRecursion (λ (y : Field Reloc). P t y.item) (list_of e.object.relocs t)
    by d has can ok (kept q is same) rest =
        let lt : x.section < length d.object.relocs = let inside : x.section < length d.object.sections = slice_get_within d.object.sections x.section can.section can.there in omega (arith, inside, has.draft.built.fields.counted) in
        let new : P x.section q = each x.section x.at x.reloc q (found-more (given_by entries) x.section x.at x.reloc) (sym (normal-base base d (given_by entries) has x.section x.at x.reloc) ∙ is) in
        subst (λ (z : Draft). (t : ℕ) → AllByRecursion (λ (y : Field Reloc). P t y.item) (list_of z.object.relocs t)) (sym same)
        (by_list d.object.relocs x.section x.at (bytes_of q.form.width) q lt (λ t fields. AllByRecursion (λ (y : Field Reloc). P t y.item) fields) rest
        (all_placed (λ (y : Field Reloc). P x.section y.item) (field x.at (bytes_of q.form.width) q) (list_of d.object.relocs x.section) new (rest x.section)))
    by d has can ok (constant number same) rest = subst (λ (z : Draft). (t : ℕ) → AllByRecursion (λ (y : Field Reloc). P t y.item) (list_of z.object.relocs t)) (sym same) rest

-- a draft that holds what is given, and the one before
module _ (base d : Draft) (given : RelocMap) (has : IsHolding base d given) where
  framed : (k : ℕ) (x z : Section) → slice_get d.object.sections k ≡ Some x → slice_get base.object.sections k ≡ Some z
      → frame_of (shown_section base.object.groups x) ≡ frame_of (shown_section base.object.groups z)
  framed k x z here was =
      images_same (λ (y : Section). frame_of (shown_section base.object.groups y)) (λ (y : Section). frame_of (shown_section base.object.groups y)) d.object.sections base.object.sections has.showing.frames k x z here was

  counts : length d.object.sections ≡ length base.object.sections
  counts = lengths_same (λ (y : Section). frame_of (shown_section base.object.groups y)) (λ (y : Section). frame_of (shown_section base.object.groups y)) d.object.sections base.object.sections has.showing.frames

  before : (k : ℕ) (x : Section) → slice_get d.object.sections k ≡ Some x → (z : Section) × (slice_get base.object.sections k ≡ Some z)
  before k x here = there_at base.object.sections k (let inside : k < length d.object.sections = slice_get_within d.object.sections k x here in omega (arith, inside, counts))

  after : (k : ℕ) (z : Section) → slice_get base.object.sections k ≡ Some z → (x : Section) × (slice_get d.object.sections k ≡ Some x)
  after k z was = there_at d.object.sections k (let inside : k < length base.object.sections = slice_get_within base.object.sections k z was in omega (arith, inside, counts))

  -- the object with the format and symbols that were there
  abbrev shaped : Format → List Symbol → Object
  shaped format symbols = record { format = format; groups = d.object.groups; sections = d.object.sections; symbols = symbols; relocs = d.object.relocs }

  abbrev like : Object
  like = shaped base.object.format base.object.symbols

  offset-like : (k offset : ℕ) → HasOffset base.object.sections k offset → HasOffset d.object.sections k offset
  offset-like k offset at =
      let now = after k at.0 at.1 in
      let size : now.0.size ≡ at.0.size = ap (λ (y : parts.Section). y.size) (framed k now.0 at.0 now.1 at.1) in
      (now.0, now.1, let le : offset ≤ at.0.size = at.2 in omega (arith, le, size))

  value-like : (v : Value) → IsValue base.object v → IsValue like v
  value-like (value.Place k offset) is = offset-like k offset is
  value-like (value.Absolute n) is = is

  fallback-like : (g : Fallback) → IsFallback base.object g → IsFallback like g
  fallback-like (fallback.Place k offset) is = offset-like k offset is
  fallback-like fallback.Zero is = tt
  fallback-like (fallback.Name k) is = is

  binding-like : (b : Binding) → IsBinding base.object b → IsBinding like b
  binding-like (Local v) is = value-like v is
  binding-like (Global v) is = value-like v is
  binding-like Undefined is = tt
  binding-like (Common size align) is = is
  binding-like (Weak g) is = fallback-like g is

  symbols-like : (ys : List Symbol) → AllByRecursion (IsSymbol base.object) ys → AllByRecursion (IsSymbol like) ys
  symbols-like [] all = tt
  symbols-like (y ∷ ys) all =
      (record { named = all.0.named; name = all.0.name; binding = binding-like y.binding all.0.binding; size = all.0.size; number = all.0.number }, symbols-like ys all.1)

  symbols-whole : AllByRecursion (IsSymbol base.object) base.object.symbols → AllByRecursion (IsSymbol d.object) d.object.symbols
  symbols-whole all =
      subst (λ (format : Format). AllByRecursion (IsSymbol (shaped format d.object.symbols)) d.object.symbols) (sym has.showing.format)
      (subst (λ (symbols : List Symbol). AllByRecursion (IsSymbol (shaped base.object.format symbols)) symbols) (sym has.showing.symbols) (symbols-like base.object.symbols all))

  aligns-whole : AllByRecursion (λ (z : Section). IsAlign z.align) base.object.sections → AllByRecursion (λ (z : Section). IsAlign z.align) d.object.sections
  aligns-whole all = all_members (λ (z : Section). IsAlign z.align) d.object.sections (λ k x here.
      let was = before k x here in
      subst IsAlign (sym (ap (λ (y : parts.Section). y.align) (framed k x was.0 here was.1))) (each_at (λ (z : Section). IsAlign z.align) base.object.sections k was.0 all was.1))

  tags-whole : AllByRecursion (λ (z : Section). can_have base.object.format z.kind z.name z.tag ≡ true) base.object.sections
      → AllByRecursion (λ (z : Section). can_have d.object.format z.kind z.name z.tag ≡ true) d.object.sections
  tags-whole all = all_members (λ (z : Section). can_have d.object.format z.kind z.name z.tag ≡ true) d.object.sections (λ k x here.
      let was = before k x here in
      ap (λ (format : Format). can_have format x.kind x.name x.tag) has.showing.format
      ∙ ap (λ (y : parts.Section). can_have base.object.format y.kind y.name y.tag) (framed k x was.0 here was.1)
      ∙ each_at (λ (z : Section). can_have base.object.format z.kind z.name z.tag ≡ true) base.object.sections k was.0 all was.1)

  -- a section in which nothing is given keeps its bytes
  bytes-stay : IsDraft base → (s : ℕ) (x z : Section) → slice_get d.object.sections s ≡ Some x → slice_get base.object.sections s ≡ Some z → ((at : ℕ) → given s at ≡ None) → x.bytes ≡ z.bytes
  bytes-stay draft s x z here was none = same_number_lists x.bytes z.bytes
      (each_at HasItsBytes d.object.sections s x has.draft.built.bytes here
      ∙ images_same stored_size stored_size d.object.sections base.object.sections has.showing.sizes s x z here was
      ∙ sym (each_at HasItsBytes base.object.sections s z draft.built.bytes was))
      (λ i low.
      sym (ap (λ (o : Option Section). option_map_or (λ (y : Section). get_or {A = ℕ} y.bytes i 0) o 0) here)
      ∙ has.showing.beside s i (λ (c : IsCovered given s i). none-some c.reloc (sym (none c.at) ∙ c.here))
      ∙ ap (λ (o : Option Section). option_map_or (λ (y : Section). get_or {A = ℕ} y.bytes i 0) o 0) was)

-- the target of what is kept is no alias, where that of the relocation is none
original-kept : (symbols : List Symbol) (t : Target) (o : Option Place) → NamesOriginal symbols t → NamesOriginal symbols (section_for o t)
original-kept symbols t o is = grind arith

pub built_is_complete : BuiltIsComplete
built_is_complete f b keep base d given start added complete final =
    let has : IsHolding base d given = holds_all base d given start.draft start.relocs start.folded added in
    record {
      keys = subst HaveKeys (sym has.showing.groups) complete.keys;
      begun = subst (λ (groups : List Group). AreBegun (length groups) 0 (groups_of d.object.sections)) (sym has.showing.groups)
          (subst (λ (members : List (Option ℕ)). AreBegun (length base.object.groups) 0 members) (sym has.members) complete.begun);
      aligns = aligns-whole base d given has complete.aligns;
      symbols = symbols-whole base d given has complete.symbols;
      hints = fields_hold (λ t q. IsHinted q) base d added.entries start.draft start.relocs start.folded added.made
          (λ t x r q here is. kept_hinted (word_for base.object.format) base.object.symbols t x r q (final.hints t x r (sym (added.each t x) ∙ here)) is);
      originals = subst (λ (symbols : List Symbol). (s : ℕ) → AllByRecursion (λ (x : Field Reloc). NamesOriginal symbols x.item.target) (list_of d.object.relocs s)) (sym has.showing.symbols)
          (fields_hold (λ t q. NamesOriginal base.object.symbols q.target) base d added.entries start.draft start.relocs start.folded added.made
          (λ t x r q here is. subst (NamesOriginal base.object.symbols) (sym (kept_left (word_for base.object.format) base.object.symbols t x r q is).target)
          (original-kept base.object.symbols r.target (place_among base.object.symbols r.target) (final.originals t x r (sym (added.each t x) ∙ here)))));
    }

pub built_is_readable : BuiltIsReadable
built_is_readable f b keep base d given start added readable blanks =
    let has : IsHolding base d given = holds_all base d given start.draft start.relocs start.folded added in
    record {
      tags = tags-whole base d given has readable.tags;
      blanks = λ s x here typed.
          let was = before base d given has s x here in
          let blank : is_blank_type base.object.format was.0.tag ≡ true
          = sym (ap (λ (format : Format). is_blank_type format x.tag) has.showing.format ∙ ap (λ (y : parts.Section). is_blank_type base.object.format y.tag) (framed base d given has s x was.0 here was.1)) ∙ typed in
          let none = blanks s was.0 was.1 blank in
          (subst AreZeros (sym (bytes-stay base d given has start.draft s x was.0 here was.1 none)) (readable.blanks s was.0 was.1 blank).0, empty s none has);
    }
  where
    empty : (s : ℕ) → ((at : ℕ) → given s at ≡ None) → IsHolding base d given → list_of d.object.relocs s ≡ []
    empty s none has = by (list_of d.object.relocs s) (fields_hold (λ t q. t ≡ s → ⊥) base d added.entries start.draft start.relocs start.folded added.made
        (λ t x r q here is same. none-some r (sym (none x) ∙ ap (λ (j : ℕ). given j x) (sym same) ∙ sym (added.each t x) ∙ here)) s)
      where
        by : (xs : List (Field Reloc)) → AllByRecursion (λ (x : Field Reloc). s ≡ s → ⊥) xs → xs ≡ []
        by [] all = refl
        by (x ∷ xs) all = absurd (all.0 refl)
