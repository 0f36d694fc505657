mod AtEnd
