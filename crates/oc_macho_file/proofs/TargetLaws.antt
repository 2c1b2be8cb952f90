-- The targets of a canonical file are those of its object.
use Rattle.std.proofs.Common.{◌≡◌, ℕ, ◌+◌, ◌-◌, ◌%◌, false, cond, List, [], Some, None, refl, sym, ◌∙◌, ap, arith}
use Rattle.std.specs.{Prelude.{slice_get}, Option.{option_map, option_and_then, unwrap_or}}
use Rattle.std.proofs.lemmas.Bool.{true≢false}
use Rattle.oc_base.specs.declared.format.Word.{Word}
use Rattle.oc_linking.specs.{declared.terms.Base.{Base}, Keeping.{all}, Numbers.{modulus}, Parts.{is_local}, Placing.{Placement}, Targets.{symbol_target}}
use Rattle.oc_linking.specs.Values.{Valuation}
use Rattle.oc_linking.specs.declared.terms.Base.TheVariants as base
use Rattle.oc_linking.specs.Parts as parts
use Rattle.oc_linking.specs.Targets as file
use Rattle.oc_neutral.specs.{declared.symbol.Symbol.{Symbol}, declared.reloc.Target.{Target}, Dialects.{Dialect}, Faces.{shown_symbol, shown_symbols}}
use Rattle.oc_neutral.specs.{Normal.{place_among}, Objects.{Object}, Worth.{base_of, target_worth}}
use Rattle.oc_neutral.specs.declared.reloc.Target.TheVariants as target
use Rattle.oc_shows.specs.{Built.{named_in}, Manners.{mach_manner}, RowFields.{place_target}, Seen.{seen_symbol, new_position}, Shows.{IsTrueToFixed}}
use Rattle.oc_made_files.proofs.MadeLaws.{numbered_target, named_by_symbol, outer_aimed}
use Rattle.oc_macho.specs.declared.relocation_info.Reference.TheVariants as reference
use Rattle.oc_macho.specs.{Tables.{Tables}, Symbols.{name_of, symbol_of}, Aims.{fixed_place, symbol_aim, section_aim, aim_of, aim_in}}
use Rattle.oc_macho_file.specs.{Lines.{OuterLine, lines_of, numbered_lines, symbol_number}, Symbols.{line_entry}}
use Rattle.oc_macho_file.proofs.{TableLaws.{made_tables}, CodedLaws.{IsForMach}, LineLaws.{symbol_found}, NameLaws.{line_named}}
use Rattle.oc_macho_file.proofs.{SeenLaws.{shown, again, syms, seen_there}, AimLaws.{entry_there}, SymbolLaws.{entry_with, made_symbol, symbol_made, not_own}}

-- a target of the object that is seen is that of the file, whose base is known up to multiples of the modulus
pub record IsAimedAt (w : Word) (f : Dialect) (b : List ℕ) (n : Object) (t : Target) (u : file.Target) : Type 0 where
  pub named : named_in n.symbols t ≡ u.named
  pub bases : (p : Placement) (v : Valuation) → IsTrueToFixed f.rules.word (f.rules.symbols b all) p v → (c : Base) → base_of p (u.worth p v) c % modulus w ≡ base_of p (target_worth n.symbols p v t) c % modulus w

-- a section
pub section_target : (w : Word) (f : Dialect) (b : List ℕ) (n : Object) (j : ℕ) → IsAimedAt w f b n (target.Section j) (place_target w j 0)
unfolding place_among
section_target w f b n j = record { named = refl; bases = λ p v fixed c. by p c }
  where
    same : (w : Word) (a : ℕ) → (a + 0) % modulus w % modulus w ≡ a % modulus w
    same w a = grind arith

    by : (p : Placement) (c : Base) → base_of p ((place_target w j 0).worth p (λ i. record { site = p.site j; slot = 0 })) c % modulus w ≡ base_of p (record { site = p.site j; slot = 0 }) c % modulus w
    by p c = grind arith

module _ (w : Word) (n : Object) (is : IsForMach w n) (j : ℕ) (s : Symbol) (there : slice_get n.symbols j ≡ Some s) (outer : is_local s.binding ≡ false) where
  abbrev t : Tables
  t = made_tables w n

  abbrev number : ℕ
  number = symbol_number (numbered_lines w n) j

  line : slice_get (lines_of w n) number ≡ Some (OuterLine j s)
  line = symbol_found w n j s there outer

  named_line : name_of t (entry_with w n s s.binding) ≡ s.name
  unfolding line_entry
  named_line = ap (λ o. unwrap_or o []) (line_named w n is number (OuterLine j s) line)

  -- as reading shows it
  abbrev pub shown_there : parts.Symbol
  shown_there = shown_symbol (syms w n) (seen_symbol (mach_manner w) n (shown w n) number s)

  targeted : symbol_target shown_there ≡ Some (numbered_target number)
  targeted = ap (option_map (λ named. record { named = named; worth = λ p v. v number })) (named_by_symbol (mach_manner w) n number s.binding outer)

  -- an entry that names it refers to it
  pub symbol_aimed : aim_in t (reference.Symbol number) ≡ Some (Some (record { target = numbered_target number; counted = None; place = fixed_place (shown_there.binding) }))
  unfolding aim_in line_entry made_symbol
  symbol_aimed =
      ap (option_and_then (aim_of t number)) (entry_there w n is number (OuterLine j s) line)
      ∙ ap (λ b. cond b (Some (Some (section_aim t ((entry_with w n s s.binding).n_sect - 1) None))) (option_map symbol_aim (symbol_of t false number (entry_with w n s s.binding))))
      (not_own w n is j s there named_line (λ e. absurd (true≢false (sym e ∙ outer))))
      ∙ ap (option_map symbol_aim) (symbol_made w n is number j s (OuterLine j s) line there tt refl named_line (λ e. absurd (true≢false (sym e ∙ outer))) false refl)
      ∙ ap (λ o. Some (option_map (λ target. record { target = target; counted = None; place = fixed_place (shown_there.binding) }) o)) targeted

  -- and it is the target of the object that is seen
  pub symbol_target_is : (f : Dialect) (b : List ℕ) → f.rules.symbols b all ≡ shown_symbols (again w n) → IsAimedAt w f b (again w n) (target.Symbol (new_position (shown w n) j)) (numbered_target number)
  symbol_target_is f b symbols =
      let is = outer_aimed (mach_manner w) n f b symbols j s outer number (seen_there w n j s there outer) in
      record { named = is.named; bases = λ p v fixed c. ap (λ x. base_of p x c % modulus w) (sym (is.worth p v fixed)) }
