mod OneRowLemmas
