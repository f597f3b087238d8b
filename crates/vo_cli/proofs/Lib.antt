mod NoWords
