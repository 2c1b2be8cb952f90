-- What numbers are made of, where the object is one.
use Rattle.std.proofs.Common.{◌≡◌, ℕ, ◌<◌, ◌^◌, true, true≢false, List, length, Option, Some, None, sym, ◌∙◌, ap, subst, arith}
use Rattle.std.specs.{Prelude.{IfSome, is_some, slice_get}, List.{AllByRecursion}, Option.{option_and_then}}
use Rattle.std.proofs.lemmas.Option.{none-some, slice_get_within}
use Rattle.oc_base.specs.declared.format.Word.TheVariants.{W32, W64}
use Rattle.oc_linking.specs.{declared.terms.Less.{Less}, declared.terms.Binding.{Binding}}
use Rattle.oc_linking.specs.declared.terms.Binding.TheVariants.{Local, Global, Undefined, Common, Weak}
use Rattle.oc_linking.specs.declared.terms.Less.TheVariants as less
use Rattle.oc_linking.specs.declared.terms.Value.TheVariants as value
use Rattle.oc_chains.specs.{declared.field.Field.{Field}, Lists.{list_of}}
use Rattle.oc_neutral.specs.{declared.symbol.Symbol.{Symbol}, declared.reloc.Reloc.{Reloc}, declared.reloc.Target.{Target}, Invariants.{IsBinding, IsSymbol}}
use Rattle.oc_neutral.specs.{KeySymbols.{global_place}, Normal.{Place}, Objects.{Object, reloc_at}, TargetRelocations.{fixed_end, global_section}}
use Rattle.oc_neutral.specs.declared.reloc.Target.TheVariants as target
use Rattle.oc_neutral.specs.Invariants as neutral
use Rattle.oc_neutral.proofs.Positions.{each_weaker}
use Rattle.oc_plans.specs.Numbered.{AreAll}
use Rattle.oc_shelf.proofs.WritingLaws.MemberLemmas.{all_members}
use Rattle.oc_macho.specs.MachHeader.{mach_format}
use Rattle.oc_macho_file.specs.Lines.{numbered_lines}
use Rattle.oc_macho_file.proofs.CodedLaws.{IsForMach}
use Rattle.oc_macho_file.proofs.EntryLaws.{addend_held, entry, field_there, known, mach_reloc, meets, row, row_is, standing, standing_is}
use Rattle.oc_macho_file.proofs.{PairLaws.{end_placed}, PinLaws.{IsTakenSection, Another, Own, taken_is}, RowLaws.{IsKnown, KnownAlone, KnownPair}}
use Rattle.oc_macho_write.specs.{declared.forms.FieldContext.{FieldContext}, declared.numbers.Numbers.{Numbers}}
use Rattle.oc_macho_write.specs.{Forms.{CanWrite, HasPlace, IsLessThere, IsReady, IsFieldContext, IsThere}, Numbers.{AreSized}}
use Rattle.oc_macho_write.specs.Relocations.{CanTell, HasNumbers}

module _ (n : Object) (x : FieldContext) (is : IsForMach x.word n) (context : IsFieldContext x.word n x) where
  low : (k : ℕ) → k < length n.sections → k < length x.addresses.now
  low k l = let e = context.addresses.counted in omega (arith, e, l)

  placed : (s : Symbol) → IsSymbol n s → IfSome (global_place s.binding) (λ (p : Place). p.0 < length x.addresses.now)
  placed s is = by s.binding is.binding
    where
      by : (b : Binding) → IsBinding n b → IfSome (global_place b) (λ (p : Place). p.0 < length x.addresses.now)
      by (Local v) here = tt
      by (Global (value.Place k offset)) here = low k (slice_get_within n.sections k here.0 here.1)
      by (Global (value.Absolute a)) here = tt
      by Undefined here = tt
      by (Common size align) here = tt
      by (Weak f) here = tt

  -- numbers can be made of it
  pub scene_ready : IsReady x
  scene_ready = record {
    small = λ k l.
        let inside : k < length n.sections = (let e = context.addresses.counted in omega (arith, e, l)) in
        subst (λ z. z < 2 ^ 32) (sym (context.addresses.each k inside)) (context.addresses.small k inside);
    few = (let e = context.addresses.counted in let few = context.addresses.few in omega (arith, e, few));
    placed = subst (AllByRecursion (λ (s : Symbol). IfSome (global_place s.binding) (λ (p : Place). p.0 < length x.addresses.now))) (sym context.symbols) (each_weaker (IsSymbol n) (λ (s : Symbol). IfSome (global_place s.binding) (λ (p : Place). p.0 < length x.addresses.now)) placed n.symbols is.object.complete.symbols);
  }

  target_there : (t : Target) → neutral.IsThere n t → IsThere x t
  target_there (target.Section k) l = low k l
  target_there (target.Symbol k) l = subst (λ (ss : List Symbol). k < length ss) (sym context.symbols) l

  less_there : (l : Less) → neutral.IsLessThere n l → IsLessThere x l
  less_there less.Zero here = tt
  less_there less.Place here = tt
  less_there less.GotBase here = tt
  less_there less.ImageBase here = tt
  less_there less.Home here = tt
  less_there (less.Section k) here = low k here

  end_there : (t : Target) (end : ℕ) → fixed_end n t ≡ Some end → HasPlace x t
  end_there (target.Section k) end e = tt
  end_there (target.Symbol k) end e =
      ap (λ (ss : List Symbol). is_some (option_and_then (λ (s : Symbol). global_place s.binding) (slice_get ss k))) context.symbols ∙ by (slice_get n.symbols k) e
    where
      by : (o : Option Symbol) → option_and_then (λ (s : Symbol). global_section s.binding) o ≡ Some end → is_some (option_and_then (λ (s : Symbol). global_place s.binding) o) ≡ true
      by None h = absurd (none-some end h)
      by (Some s) h = ap is_some (end_placed s.binding end h).1

  module _ (k at : ℕ) (r : Reloc) (there : reloc_at n k at ≡ Some r) where
    -- in i386 a pair is written of a difference, whose ends the target asks to lie in sections
    ends : x.word ≡ W32 → is_some (row x.word n is k at r there).second ≡ true → HasPlace x r.target
    ends short pair = by (known x.word n is k at r there).known
      where
        of_taken : IsTakenSection x.word n is k at r there → HasPlace x r.target
        of_taken (Another j l same) = let d = (mach_reloc x.word n is k at r there).difference j (ap mach_format short) l in end_there r.target d.end d.fixed
        of_taken (Own long l far same) = absurd (let e : W32 ≡ W64 = sym short ∙ long in cc)

        by : IsKnown x.word (entry x.word n is k at r there) → HasPlace x r.target
        by (KnownAlone none alone lacks) = absurd (true≢false (sym pair ∙ ap is_some (sym (row_is x.word n is k at r there (λ y. y.second)) ∙ none)))
        by (KnownPair p taken d) = of_taken (taken_is x.word n is k at r there taken d)

    abbrev can : CanWrite x k at r
    can =
        let m = meets x.word n is k at r there in
        record {
          there = record { own = low k (slice_get_within n.sections k m.section m.there); target = target_there r.target m.normal.target; less = less_there r.form.less m.normal.less };
          form = record { written = standing x.word n is k at r there; there = standing_is x.word n is k at r there };
          ends = ends;
        }

    tells : CanTell x k at r
    tells = record { ready = scene_ready; can = can; object = n; context = context; holds = addend_held x.word n is k at r there }

  -- the relocations of a section can be written
  pub all_can : (k : ℕ) → AreAll (CanWrite x k) (list_of n.relocs k)
  all_can k = all_members (λ (f : Field Reloc). CanWrite x k f.at f.item) (list_of n.relocs k) (λ i f here. can k f.at f.item (field_there x.word n is (numbered_lines x.word n) k i f here))

  -- their numbers can be made
  pub all_told : (k : ℕ) → AreAll (CanTell x k) (list_of n.relocs k)
  all_told k = all_members (λ (f : Field Reloc). CanTell x k f.at f.item) (list_of n.relocs k) (λ i f here. tells k f.at f.item (field_there x.word n is (numbered_lines x.word n) k i f here))

  -- there is a place for the number of each section and symbol
  pub sized_numbers : (y : Numbers) → AreSized n y → HasNumbers x y
  sized_numbers y sized = record {
    owns = (let a = sized.owns in let b = context.addresses.counted in omega (arith, a, b));
    outers = (let a = sized.outers in let b = ap length context.symbols in omega (arith, a, b));
  }
