-- The entries of a canonical file's symbol table are of kinds that are carried, and stand in their sections.
use Rattle.oc_elf_file.proofs.{HeadCounts.{few_heads}, HeadLaws.{group_number-is, section_number-is, group_at, section_at}, FrameLaws.{IsCodable, made_frame}}
use Rattle.oc_elf_file.proofs.{CodedLaws.{IsForElf, IsPlaced, meets_section, symbol_is, fallback_is}, TableLaws.{header_is, length-headers}}
use Rattle.oc_elf_file.proofs.{LineLaws.{IsLineAt}, EntryLaws.{entry_with, bind_is, type_is}, HeaderClean.{within_file}, SectionClean.{power_found}}
use Rattle.oc_elf_file.proofs.TableClean.{none_right}
use Rattle.std.proofs.Common.{◌≡◌, ℕ, ◌≤◌, ◌⊎◌, inl, inr, Bool, true, false, not, ◌&&◌, ◌||◌, eqb, length, Some, refl, ◌∙◌, ap, arith}
use Rattle.std.specs.Prelude.{slice_get, nat_lt}
use Rattle.std.proofs.lemmas.{Bool.{ne_eqb, lt-ltb}, Option.{slice_get_within}}
use Rattle.oc_linking.specs.{declared.terms.Binding.{Binding}, declared.terms.Binding.TheVariants.{Local, Global, Undefined, Common, Weak}}
use Rattle.oc_linking.specs.{declared.terms.Mark.{Mark}, declared.terms.Mark.TheVariants.{Object as ObjectMark}}
use Rattle.oc_linking.specs.declared.terms.Fallback.TheVariants as fallback
use Rattle.oc_linking.specs.declared.terms.Value.TheVariants as value
use Rattle.oc_neutral.specs.{declared.section.Section.{Section}, declared.symbol.Symbol.{Symbol}, Invariants.{IsBinding, IsAlign, HasOffset}, Objects.{Object}}
use Rattle.oc_shows.specs.Manners.{elf_mark}
use Rattle.oc_elf.specs.{declared.class.ElfClass.{ElfClass}, declared.shdr.Shdr.{Shdr}, declared.sym.Sym.{Sym}, Sym.{bind_of, type_of}}
use Rattle.oc_elf.specs.{Frames.{FileFrame, header_at}, Sections.{is_carried}, SectionRules.{is_power}, Entries.{is_local_entry, is_sectional}}
use Rattle.oc_elf.specs.SymbolRules.{is_odd_symbol}
use Rattle.oc_elf_file.specs.Heads.{Head, GroupHead, SectionHead, heads_of, group_number, section_number}
use Rattle.oc_elf_file.specs.{Lines.{Line, NullLine, SectionLine, SignatureLine, LocalLine, OuterLine, lines_of}, Headers.{shdr_of}}
use Rattle.oc_elf_file.specs.Symbols.{ValueFields, value_fields_for, type_by, local_entry, line_entry, bind_by}

-- ... kinds of symbols

-- the binding and the type of an entry, and the tests on its section index
abbrev odd_form : ℕ → ℕ → Bool → Bool → Bool → Bool → Bool
odd_form bind type low absolute common undefined =
    nat_lt 2 bind || nat_lt 5 type || eqb bind 2 && (absolute || common) || eqb bind 0 && (common || undefined && not (eqb type 4)) || eqb type 3 && not (eqb bind 0) || not (low || absolute || common)

odd_by : (y : Sym) (bind type : ℕ) (low absolute common undefined : Bool) → bind_of y ≡ bind → type_of y ≡ type → nat_lt y.st_shndx 0xFFFF_FF00 ≡ low → eqb y.st_shndx 0xFFFF_FFF1 ≡ absolute → eqb y.st_shndx 0xFFFF_FFF2 ≡ common
    → eqb y.st_shndx 0 ≡ undefined → is_odd_symbol y ≡ odd_form bind type low absolute common undefined
unfolding is_odd_symbol
odd_by y bind type low absolute common undefined a b c d e g = rw (a, b, c, d, e, g) refl

odd_place : (b : Binding) (m : Mark) → odd_form (bind_by b) (type_by m) true false false false ≡ false
odd_place b m = grind arith

-- what an entry meets by its section and value
pub record IsFine (n : Object) (f : FileFrame) (y : Sym) : Type 0 where
  pub odd : is_odd_symbol y ≡ false
  pub inside : (is_sectional y && not (nat_lt y.st_shndx (length f.headers) || eqb y.st_shndx 0xFFFF_FEFE)) ≡ false
  pub carried : (is_sectional y && not (is_local_entry y) && not (is_carried (header_at f.headers y.st_shndx))) ≡ false
  pub ends : (is_sectional y && nat_lt (header_at f.headers y.st_shndx).sh_size y.st_value) ≡ false
  pub common : (eqb y.st_shndx 0xFFFF_FFF2 && not (is_power 20 y.st_value)) ≡ false

module _ (class : ElfClass) (n : Object) (is : IsForElf class n) (fits : IsCodable class n) where
  abbrev f : FileFrame
  f = made_frame class n

  -- ... section indexes

  -- a number of a header that is there, and is not the first, is one of a section
  record IsIndex (m : ℕ) : Type 0 where
    low : nat_lt m 0xFFFF_FF00 ≡ true
    absolute : eqb m 0xFFFF_FFF1 ≡ false
    common : eqb m 0xFFFF_FFF2 ≡ false
    undefined : eqb m 0 ≡ false
    there : nat_lt m (length f.headers) ≡ true

  index_of : (m : ℕ) (h : Head) → slice_get (heads_of n) m ≡ Some h → 1 ≤ m → IsIndex m
  index_of m h here some =
      let low = slice_get_within (heads_of n) m h here in
      let few = few_heads class n is in
      let long = length-headers class n is fits in
      record {
        low = lt-ltb m 0xFFFF_FF00 (omega (arith, low, few));
        absolute = ne_eqb m 0xFFFF_FFF1 (λ e. omega (arith, low, few, e));
        common = ne_eqb m 0xFFFF_FFF2 (λ e. omega (arith, low, few, e));
        undefined = ne_eqb m 0 (λ e. omega (arith, some, e));
        there = lt-ltb m (length f.headers) (omega (arith, low, long));
      }

  -- a section by its number
  section_header : (k : ℕ) (s : Section) → slice_get n.sections k ≡ Some s → (is_carried (header_at f.headers (section_number n k)) ≡ true) × ((header_at f.headers (section_number n k)).sh_size ≡ s.size)
  unfolding shdr_of
  section_header k s here =
      let b = header_is class n is fits (section_number n k) (SectionHead k s) (section_at n k s here) in
      (ap is_carried b.1 ∙ (meets_section class n is k s here).carried, ap (λ (z : Shdr). z.sh_size) b.1)

  -- an entry in a section that is carried
  place_fine : (k offset : ℕ) (y : Sym) (b : Binding) (m : Mark) → HasOffset n.sections k offset → y.st_shndx ≡ section_number n k → y.st_value ≡ offset → bind_of y ≡ bind_by b → type_of y ≡ type_by m → IsFine n f y
  place_fine k offset y b m has index val bind type =
      let s = has.0 in
      let h = section_header k s has.1 in
      let number = section_number-is n k s has.1 in
      let o = index_of (section_number n k) (SectionHead k s) (section_at n k s has.1) (omega (arith, number)) in
      let ends = has.2 in
      record {
        odd = odd_by y (bind_by b) (type_by m) true false false false bind type (ap (λ i. nat_lt i 0xFFFF_FF00) index ∙ o.low) (ap (λ i. eqb i 0xFFFF_FFF1) index ∙ o.absolute) (ap (λ i. eqb i 0xFFFF_FFF2) index ∙ o.common)
            (ap (λ i. eqb i 0) index ∙ o.undefined) ∙ odd_place b m;
        inside = ap (λ c. is_sectional y && not (c || eqb y.st_shndx 0xFFFF_FEFE)) (ap (λ i. nat_lt i (length f.headers)) index ∙ o.there) ∙ none_right (is_sectional y);
        carried = ap (λ c. is_sectional y && not (is_local_entry y) && not c) (ap (λ i. is_carried (header_at f.headers i)) index ∙ h.0) ∙ none_right (is_sectional y && not (is_local_entry y));
        ends =
            ap (λ i. is_sectional y && nat_lt (header_at f.headers i).sh_size y.st_value) index ∙ ap (λ z. is_sectional y && nat_lt z y.st_value) h.1
            ∙ ap (λ z. is_sectional y && nat_lt s.size z) val ∙ ap (λ c. is_sectional y && c) (within_file s.size offset ends) ∙ none_right (is_sectional y);
        common = ap (λ c. c && not (is_power 20 y.st_value)) (ap (λ i. eqb i 0xFFFF_FFF2) index ∙ o.common);
      }

  -- an entry that is in none
  other_fine : (index : ℕ) (y : Sym) (bind type : ℕ) → (not (eqb index 0) && nat_lt index 0xFFFF_FF00) ≡ false → y.st_shndx ≡ index → bind_of y ≡ bind → type_of y ≡ type
      → odd_form bind type (nat_lt index 0xFFFF_FF00) (eqb index 0xFFFF_FFF1) (eqb index 0xFFFF_FFF2) (eqb index 0) ≡ false → (eqb index 0xFFFF_FFF2 && not (is_power 20 y.st_value)) ≡ false → IsFine n f y
  other_fine index y bind type far at b t odd common =
      let plain : is_sectional y ≡ false = ap (λ i. not (eqb i 0) && nat_lt i 0xFFFF_FF00) at ∙ far in
      record {
        odd = odd_by y bind type (nat_lt index 0xFFFF_FF00) (eqb index 0xFFFF_FFF1) (eqb index 0xFFFF_FFF2) (eqb index 0) b t (ap (λ i. nat_lt i 0xFFFF_FF00) at) (ap (λ i. eqb i 0xFFFF_FFF1) at) (ap (λ i. eqb i 0xFFFF_FFF2) at) (ap (λ i. eqb i 0) at) ∙ odd;
        inside = ap (λ c. c && not (nat_lt y.st_shndx (length f.headers) || eqb y.st_shndx 0xFFFF_FEFE)) plain;
        carried = ap (λ c. c && not (is_local_entry y) && not (is_carried (header_at f.headers y.st_shndx))) plain;
        ends = ap (λ c. c && nat_lt (header_at f.headers y.st_shndx).sh_size y.st_value) plain;
        common = ap (λ i. eqb i 0xFFFF_FFF2 && not (is_power 20 y.st_value)) at ∙ common;
      }

  -- an entry of an absolute symbol, and of one that is defined elsewhere
  absolute_odd : (bind : ℕ) (m : Mark) → (bind ≡ 0) ⊎ (bind ≡ 1) → odd_form bind (type_by m) false true false false ≡ false
  absolute_odd bind m (inl e) = ap (λ b. odd_form b (type_by m) false true false false) e ∙ by m
    where
      by : (m : Mark) → odd_form 0 (type_by m) false true false false ≡ false
      by m = grind arith
  absolute_odd bind m (inr e) = ap (λ b. odd_form b (type_by m) false true false false) e ∙ by m
    where
      by : (m : Mark) → odd_form 1 (type_by m) false true false false ≡ false
      by m = grind arith

  elsewhere_odd : (bind : ℕ) (m : Mark) → (bind ≡ 1) ⊎ (bind ≡ 2) → odd_form bind (type_by m) true false false true ≡ false
  elsewhere_odd bind m (inl e) = ap (λ b. odd_form b (type_by m) true false false true) e ∙ by m
    where
      by : (m : Mark) → odd_form 1 (type_by m) true false false true ≡ false
      by m = grind arith
  elsewhere_odd bind m (inr e) = ap (λ b. odd_form b (type_by m) true false false true) e ∙ by m
    where
      by : (m : Mark) → odd_form 2 (type_by m) true false false true ≡ false
      by m = grind arith

  aligned : (align : ℕ) → IsAlign align → is_power 20 align ≡ true
  aligned align a = ap (is_power 20) a.2 ∙ power_found a.0 0 21 (omega arith) (let l = a.1 in omega (arith, l))

  symbol_fine : (k : ℕ) (s : Symbol) → slice_get n.symbols k ≡ Some s → (b : Binding) → s.binding ≡ b → IsBinding n b → IsFine n f (entry_with n s b)
  symbol_fine k s here (Local (value.Place j offset)) own there =
      let b : Binding = Local (value.Place j offset) in place_fine j offset (entry_with n s b) b (elf_mark b s.mark) there refl refl (bind_is n s b) (type_is n s b)
  symbol_fine k s here (Local (value.Absolute a)) own there =
      let b : Binding = Local (value.Absolute a) in other_fine 0xFFFF_FFF1 (entry_with n s b) 0 (type_by s.mark) refl refl (bind_is n s b) (type_is n s b) (absolute_odd 0 s.mark (inl refl)) refl
  symbol_fine k s here (Global (value.Place j offset)) own there =
      let b : Binding = Global (value.Place j offset) in place_fine j offset (entry_with n s b) b (elf_mark b s.mark) there refl refl (bind_is n s b) (type_is n s b)
  symbol_fine k s here (Global (value.Absolute a)) own there =
      let b : Binding = Global (value.Absolute a) in other_fine 0xFFFF_FFF1 (entry_with n s b) 1 (type_by s.mark) refl refl (bind_is n s b) (type_is n s b) (absolute_odd 1 s.mark (inr refl)) refl
  symbol_fine k s here Undefined own there = other_fine 0 (entry_with n s Undefined) 1 (type_by s.mark) refl refl (bind_is n s Undefined) (type_is n s Undefined) (elsewhere_odd 1 s.mark (inl refl)) refl
  symbol_fine k s here (Common size align) own there =
      let b : Binding = Common size align in other_fine 0xFFFF_FFF2 (entry_with n s b) 1 1 refl refl (bind_is n s b) (type_is n s b) refl (ap not (aligned align there.1))
  symbol_fine k s here (Weak g) own there = by (fallback_is class n is k s here g own)
    where
      by : (g ≡ fallback.Zero) ⊎ IsPlaced n g → IsFine n f (entry_with n s (Weak g))
      by (inl e) =
          other_fine 0 (entry_with n s (Weak g)) 2 (type_by s.mark) refl (ap (λ h. (value_fields_for n h).st_shndx) e) (bind_is n s (Weak g)) (type_is n s (Weak g)) (elsewhere_odd 2 s.mark (inr refl)) refl
      by (inr p) =
          place_fine p.place.0 p.place.1 (entry_with n s (Weak g)) (Weak g) s.mark p.there (ap (λ (x : ValueFields). x.st_shndx) p.stood) (ap (λ (x : ValueFields). x.st_value) p.stood) (bind_is n s (Weak g)) (type_is n s (Weak g))

  -- the entry of a line behind the first
  pub line_fine : (i : ℕ) (x : Line) → slice_get (lines_of n) i ≡ Some x → 1 ≤ i → IsLineAt n i x → IsFine n f (line_entry n x)
  unfolding line_entry is_odd_symbol shdr_of
  line_fine i NullLine here some own = absurd (omega (arith, some, own))
  line_fine i (SectionLine k s) here some own =
      let y : Sym = local_entry 0 3 (section_number n k) in
      let h = section_header k s own.0 in
      let number = section_number-is n k s own.0 in
      let o = index_of (section_number n k) (SectionHead k s) (section_at n k s own.0) (omega (arith, number)) in
      record {
        odd = odd_by y 0 3 true false false false refl refl o.low o.absolute o.common o.undefined;
        inside = rw (o.there, o.undefined, o.low) refl;
        carried = rw (o.undefined, o.low) refl;
        ends = ap (λ c. is_sectional y && c) (within_file (header_at f.headers (section_number n k)).sh_size 0 (omega arith)) ∙ none_right (is_sectional y);
        common = ap (λ c. c && not (is_power 20 0)) o.common;
      }
  line_fine i (SignatureLine k g) here some own =
      let y : Sym = line_entry n (SignatureLine k g) in
      let number = group_number-is n k g own.0 in
      let o = index_of (group_number n k) (GroupHead k g) (group_at n k g own.0) (omega (arith, number)) in
      record {
        odd = odd_by y 0 0 true false false false refl refl o.low o.absolute o.common o.undefined;
        inside = rw (o.there, o.undefined, o.low) refl;
        carried = rw (o.undefined, o.low) refl;
        ends = ap (λ c. is_sectional y && c) (within_file (header_at f.headers (group_number n k)).sh_size 0 (omega arith)) ∙ none_right (is_sectional y);
        common = ap (λ c. c && not (is_power 20 0)) o.common;
      }
  line_fine i (LocalLine k s) here some own = symbol_fine k s own.0 s.binding refl (symbol_is class n is k s own.0).binding
  line_fine i (OuterLine k s) here some own = symbol_fine k s own.0 s.binding refl (symbol_is class n is k s own.0).binding
