-- What the relocations of the canonical file are against: a section, or an external.
use Rattle.std.proofs.Common.{◌≡◌, ℕ, ◌<◌, ◌⊎◌, inl, inr, true, false, cond, Some, None, refl, sym, ◌∙◌, ap, subst, arith}
use Rattle.std.specs.{Prelude.{slice_get}, Option.{option_and_then}}
use Rattle.std.proofs.lemmas.{Bool.{true≢false}, Option.{slice_get_within}}
use Rattle.oc_base.specs.declared.format.Word.TheVariants.{W32}
use Rattle.oc_linking.specs.{declared.terms.Less.{Less}, declared.terms.Binding.{Binding}}
use Rattle.oc_linking.specs.{declared.terms.Binding.TheVariants.{Local, Global, Undefined, Common, Weak}, Parts.{is_local}}
use Rattle.oc_linking.specs.declared.terms.Value.TheVariants as value
use Rattle.oc_neutral.specs.{declared.section.Section.{Section}, declared.symbol.Symbol.{Symbol}, declared.reloc.Reloc.{Reloc}, declared.reloc.Target.{Target}}
use Rattle.oc_neutral.specs.{Bindings.{is_external}, Invariants.{IsSymbol, IsBinding, IsThere}, KeySymbols.{global_place}}
use Rattle.oc_neutral.specs.{Normal.{Place, takes_section, at_section}, Objects.{Object, reloc_at}, Omf.Relocs.{FixupFrame, fixup_row}}
use Rattle.oc_neutral.specs.declared.reloc.Target.TheVariants as target
use Rattle.oc_shows.specs.{Manners.{omf_manner}, Seen.{place_at, target_place, section_place}}
use Rattle.oc_neutral.specs.Rows as rows
use Rattle.oc_neutral.proofs.Positions.{each_at, there_at}
use Rattle.oc_omf_file.specs.Fixups.{written_reloc, target_method}
use Rattle.oc_omf_file.proofs.{CodedLaws.{IsForOmf, framed, meets, row_takes}, LineLaws.{number_low}}

-- a relocation is against a section, or against an external
pub record ForSection (n : Object) (r : Reloc) : Type 0 where
  pub position : ℕ
  pub section : Section
  pub here : slice_get n.sections position ≡ Some section
  pub aim : r.target ≡ target.Section position

pub record ForSymbol (n : Object) (r : Reloc) : Type 0 where
  pub position : ℕ
  pub symbol : Symbol
  pub here : slice_get n.symbols position ≡ Some symbol
  pub external : is_external symbol.binding ≡ true
  pub aim : r.target ≡ target.Symbol position

-- no fixup takes the address of a section
no_section : (framed : FixupFrame) (l : Less) (s : ℕ) → rows.less_of (fixup_row framed).taken 0 ≡ l → takes_section s l ≡ false
no_section framed l s e = grind arith

module _ (n : Object) (is : IsForOmf n) where
  pub symbol_is : (k : ℕ) (s : Symbol) → slice_get n.symbols k ≡ Some s → IsSymbol n s
  symbol_is k s here = each_at (IsSymbol n) n.symbols k s is.object.complete.symbols here

  module _ (k at : ℕ) (r : Reloc) (there : reloc_at n k at ≡ Some r) where
    takes_none : (s : ℕ) → takes_section s r.form.less ≡ false
    takes_none s = no_section (framed n is k at r there) r.form.less s (row_takes n is k at r there 0)

    -- what is written, by the place of a defined symbol
    pub aimed : ForSection n (written_reloc n r) ⊎ ForSymbol n (written_reloc n r)
    aimed = by r.target refl
      where
        Aim : Type 0
        Aim = ForSection n (written_reloc n r) ⊎ ForSymbol n (written_reloc n r)

        unplaced : (t : Target) → r.target ≡ t → target_place n r.form.less t ≡ None → (written_reloc n r).target ≡ t
        unplaced t e none = ap (λ o. (at_section W32 r o).target) (ap (target_place n r.form.less) e ∙ none) ∙ e

        by_symbol : (j : ℕ) (s : Symbol) → r.target ≡ target.Symbol j → slice_get n.symbols j ≡ Some s → (b : Binding) → s.binding ≡ b → is_local b ≡ false → Aim
        by_symbol j s e here (Local v) f outer = absurd (true≢false outer)
        by_symbol j s e here (Global (value.Absolute x)) f outer = absurd ((is.meets.symbols j s here).placed x f)
        by_symbol j s e here (Global (value.Place a offset)) f outer =
            let held = subst (IsBinding n) f (symbol_is j s here).binding in
            let placed : place_at n j ≡ Some (a, offset) = ap (option_and_then (λ (x : Symbol). global_place x.binding)) here ∙ ap global_place f in
            let place : section_place omf_manner n r ≡ Some (a, offset)
            = ap (target_place n r.form.less) e
            ∙ ap (option_and_then (λ (p : Place). cond (takes_section p.0 r.form.less) None (Some p))) placed
            ∙ ap (λ b. cond b None (Some (a, offset))) (takes_none a) in
            inl (record { position = a; section = held.0; here = held.1; aim = ap (λ o. (at_section W32 r o).target) place })
        by_symbol j s e here Undefined f outer =
            let placed : place_at n j ≡ None = ap (option_and_then (λ (x : Symbol). global_place x.binding)) here ∙ ap global_place f in
            inr (record {
              position = j;
              symbol = s;
              here = here;
              external = ap is_external f;
              aim = unplaced (target.Symbol j) e (ap (option_and_then (λ (p : Place). cond (takes_section p.0 r.form.less) None (Some p))) placed);
            })
        by_symbol j s e here (Common size align) f outer =
            let placed : place_at n j ≡ None = ap (option_and_then (λ (x : Symbol). global_place x.binding)) here ∙ ap global_place f in
            inr (record {
              position = j;
              symbol = s;
              here = here;
              external = ap is_external f;
              aim = unplaced (target.Symbol j) e (ap (option_and_then (λ (p : Place). cond (takes_section p.0 r.form.less) None (Some p))) placed);
            })
        by_symbol j s e here (Weak w) f outer = absurd ((is.meets.symbols j s here).strong w f)

        by : (t : Target) → r.target ≡ t → Aim
        by (target.Section j) e =
            let s = there_at n.sections j (subst (λ t. IsThere n t) e (meets n is k at r there).normal.target) in
            inl (record { position = j; section = s.0; here = s.1; aim = unplaced (target.Section j) e refl })
        by (target.Symbol j) e =
            let s = there_at n.symbols j (subst (λ t. IsThere n t) e (meets n is k at r there).normal.target) in
            by_symbol j s.0 e s.1 s.0.binding refl ((meets n is k at r there).outer j s.0 e s.1)

    -- its index fits
    pub index_low : (target_method n (written_reloc n r).target).index < 32768
    index_low = elim aimed [
      | inl a ↦
          let low = slice_get_within n.sections a.position a.section a.here in
          let few = is.meets.few in
          subst (λ t. (target_method n t).index < 32768) (sym a.aim) (omega (arith, low, few))
      | inr a ↦ subst (λ t. (target_method n t).index < 32768) (sym a.aim) (number_low n is a.position a.symbol a.here a.external)
    ]
