use Rattle.oc_coff_write.proofs.section_names.+put_decimal.Given as goal

-- a tenth of the number is less
abbrev pub decreases-put_decimal : goal.decreases-put_decimal
decreases-put_decimal l = l.number
