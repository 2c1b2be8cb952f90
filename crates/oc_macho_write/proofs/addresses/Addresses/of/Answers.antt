-- The sections with bytes are laid from 0 on, and the others behind them.
use Rattle.std.proofs.Common.{◌≡◌, ℕ, ◌^◌, ◌<◌, true, false, rules, List, length, get_or, take, drop, ◌++◌, replicate, sym, ◌∙◌, ap, subst, arith}
use Rattle.std.proofs.lemmas.List.{get_or-replicate, length-replicate}
use Rattle.oc_neutral.specs.Objects.{Object}
use Rattle.oc_neutral.proofs.StoringSteps.{put_back}
use Rattle.oc_macho_file.specs.Addresses.{is_at, stored_end}
use Rattle.oc_macho_file.proofs.CodedLaws.{for_mach}
use Rattle.oc_macho_write.specs.{Addresses.{place_or, those_end, those_laid}, Values.{AreAddresses}}
use Rattle.oc_macho_write.proofs.AddressLemmas.{addresses_are, ends_low, memory_is}
use Rattle.oc_macho_write.proofs.addresses.Addresses.of.Goals as goal

pub lay_sections-stored_end-requires-clause-near : goal.lay_sections-stored_end-requires-clause-near
lay_sections-stored_end-requires-clause-near c = (ends_low c.requires.0 c.args.neutral.now (for_mach c.requires.0 c.args.neutral.now c.requires.1)).0

pub lay_sections-memory_end-requires-clause-near : goal.lay_sections-memory_end-requires-clause-near
lay_sections-memory_end-requires-clause-near c =
    subst (λ at. those_end true c.args.neutral.now at < 2 ^ 48) (sym c.lay_sections-stored_end.ensures.end) (ends_low c.requires.0 c.args.neutral.now (for_mach c.requires.0 c.args.neutral.now c.requires.1)).1

pub returns : goal.returns
returns c =
    let n : Object = c.args.neutral.now in
    let len : ℕ = c.in_ok-sections.sections.len in
    let items : List ℕ = c.in_ok-sections.sections.items in
    let first = c.lay_sections-stored_end in
    let second = c.lay_sections-memory_end in
    let one : List ℕ = first.new.addresses in
    let two : List ℕ = second.new.addresses in
    let long : len ≡ length items = (let l = c.in_ok-sections.sections.ok.0 in omega (arith, l)) in
    let zeros : items ≡ replicate c.section_count.result 0 = c.in_ok-sections.ensures.items_if_clones_equal (λ y cloned. search rules) in
    let many : length items ≡ length n.sections = ap length zeros ∙ length-replicate c.section_count.result 0 ∙ c.section_count.ensures in
    let back : take len (one ++ drop (length one) items) ≡ one = put_back one items len (first.ensures.counted ∙ sym many) long in
    let last : take len (two ++ drop (length two) (take len (one ++ drop (length one) items))) ≡ two
    = ap (λ (xs : List ℕ). take len (two ++ drop (length two) xs)) back ∙ put_back two one len (second.ensures.counted ∙ sym first.ensures.counted) (long ∙ many ∙ sym first.ensures.counted) in
    record {
      sections = subst (AreAddresses n) (sym last) (addresses_are c.requires.0 n (for_mach c.requires.0 n c.requires.1) one two second.ensures.counted
          (λ j low. first.ensures.each j low ∙ ap (place_or (is_at j) (those_laid false n 0)) (ap (λ (xs : List ℕ). get_or xs j 0) (c.as_mut_slice.ensures.value ∙ zeros) ∙ get_or-replicate c.section_count.result j 0 0 (subst (λ m. j < m) (sym c.section_count.ensures) low)))
          (λ j low. second.ensures.each j low
          ∙ ap (λ at. place_or (is_at j) (those_laid true n at) (get_or c.as_mut_slice-2.result.now j 0)) first.ensures.end
          ∙ ap (λ (xs : List ℕ). place_or (is_at j) (those_laid true n (stored_end n)) (get_or xs j 0)) (c.as_mut_slice-2.ensures.value ∙ back)));
      stored_end = first.ensures.end;
      memory_end = second.ensures.end ∙ ap (those_end true n) first.ensures.end ∙ memory_is n;
    }
